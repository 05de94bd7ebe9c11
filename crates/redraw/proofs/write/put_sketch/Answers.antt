use Rattle.std.proofs.lemmas.Result.{err_from_is_err_and}
use Rattle.drawn_networks.specs.Drawn.{name_of}
use Rattle.redraw.proofs.Pieces.{both_put, first_cut, text_is}
use Rattle.redraw.proofs.write.put_sketch.Goals as goal

pub returns-in_err-put_signal : goal.returns-in_err-put_signal
returns-in_err-put_signal g c =
    let p = err_from_is_err_and c.from_residual.result c.from_residual.ensures.1 in
    rw p.1 (record { puts = first_cut _ _ _ _ _ (text_is (name_of c.args.names.now) c.args.from c.args.to c.args.range c.args.stands.now) c.in_err-put_signal.ensures })

pub returns : goal.returns
returns g c = record { puts = both_put _ _ _ _ _ _ _ (text_is (name_of c.args.names.now) c.args.from c.args.to c.args.range c.args.stands.now) c.in_ok-put_signal.ensures c.put_tail.ensures }
