use Rattle.std.proofs.Common.{◌≡◌, length, arith}
use Rattle.itv_base.proofs.Written.{puts_then}
use Rattle.job_base.proofs.events.put_events.Goals as goal

pub returns : goal.returns
returns g c =
    let count : c.events-count.result ≡ length c.args.drawn.now.names = grind arith in
    puts_then _ _ _ _ _ _ (rw (← count) c.in_ok-write_item.ensures.puts) c.put_names.ensures
