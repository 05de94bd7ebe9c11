use Rattle.itv_base.proofs.Streams.{writes_kept, writes_more, writes_front}
use Rattle.itv_base.proofs.sink_out.write_whole.Goals as goal
use Rattle.itv_base.proofs.sink_out.write_whole.Goals.{in-Ok+else-count-eq0, in-Err, else-loop-test, then-loop-test+else-is_empty+in-Ok+then-count-eq0}

pub returns-in-Err-2-clause-front : goal.returns-in-Err-2-clause-front
returns-in-Err-2-clause-front g c = writes_front _ _ _ _ (writes_kept _ _ _ _ _ c.loop.invariant c.in-Err-2.ensures.bytes)

pub loop-preserved : goal.loop-preserved
loop-preserved g c = elim c.match-write.branch [
  | in-Ok+else-count-eq0 w ↦ rw w.rest-is (writes_more _ _ _ _ _ _ c.loop.invariant w.in-Ok.ensures.bytes)
  | in-Err w ↦ rw w.rest-is (writes_kept _ _ _ _ _ c.loop.invariant w.in-Err.ensures.bytes)
]

pub returns-clause-front : goal.returns-clause-front
returns-clause-front g c = elim c.loop-test.branch [
  | else-loop-test w ↦ rw w.out-is (writes_front _ _ _ _ c.loop.invariant)
  | then-loop-test+else-is_empty+in-Ok+then-count-eq0 w ↦ rw w.out-is (writes_front _ _ _ _ (writes_more _ _ _ _ _ _ c.loop.invariant w.in-Ok.ensures.bytes))
]
