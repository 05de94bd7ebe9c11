use Rattle.std.proofs.Common.{◌≡◌, ◌<◌, length, refl, rules, arith}
use Rattle.minplus.proofs.Attaining.{no_root}
use Rattle.minplus.proofs.ClosedFurther.{bounds_further}
use Rattle.minplus.proofs.RowByRow.{rows_held}
use Rattle.minplus.proofs.Staging.{closure_at_end, stage_at_start, stage_further}
use Rattle.minplus.proofs.closing.close.Goals as goal

pub returns-then-not-is_sound-clause-err : goal.returns-then-not-is_sound-clause-err
returns-then-not-is_sound-clause-err c =
    let found = c.if-not-is_sound.ensures.no refl in
    (refl, no_root _ _ found.0 c.requires.bounds.bounds found.1)

pub is_sound-requires : goal.is_sound-requires
is_sound-requires c = rw c.requires.bounds.square.count c.requires.bounds.square

pub loop-event-init : goal.loop-event-init
loop-event-init c =
    let events : length c.args.rows.now ≡ c.args.net.now.events = c.requires.bounds.square.count in
    record {
      square = rw events c.requires.bounds.square;
      count = refl;
      room = c.requires.room;
      stage = stage_at_start _ _ c.requires.bounds c.requires.edges (λ at (below : at < c.args.net.now.events). c.if-not-is_sound.ensures.yes refl at (omega arith));
    }

pub improve_through-requires-clause-entries : goal.improve_through-requires-clause-entries
improve_through-requires-clause-entries c = rows_held _ c.loop-event.invariant.stage.held

pub returns-then-not-is_sound-2-clause-err : goal.returns-then-not-is_sound-2-clause-err
returns-then-not-is_sound-2-clause-err c =
    let found = c.if-not-is_sound-2.ensures.no refl in
    (refl, no_root _ _ found.0 (bounds_further _ c.loop-event.event _ _ c.improve_through.ensures.through c.loop-event.invariant.stage.bounds) found.1)

pub loop-event-preserved : goal.loop-event-preserved
loop-event-preserved c =
    let events : length c.args.rows.now ≡ c.args.net.now.events = c.requires.bounds.square.count in
    let count : length c.improve_through.new.rows ≡ length c.args.rows.now = search rules in
    record {
      square = search rules;
      count = count;
      room = search rules;
      stage = stage_further _ _ _ _ _ (omega arith) c.requires.few c.loop-event.invariant.stage c.improve_through.ensures.through
          (λ at (below : at < c.args.net.now.events). c.if-not-is_sound-2.ensures.yes refl at (omega arith));
    }

pub returns-clause-square : goal.returns-clause-square
returns-clause-square c =
    let events : length c.args.rows.now ≡ c.args.net.now.events = c.requires.bounds.square.count in
    rw events at c.loop-event.invariant.square

pub returns-clause-ok : goal.returns-clause-ok
returns-clause-ok c =
    let events : length c.args.rows.now ≡ c.args.net.now.events = c.requires.bounds.square.count in
    let all : c.loop-event.event ≡ c.args.net.now.events = omega arith in
    closure_at_end _ _ _ (rw all at c.loop-event.invariant.stage)
