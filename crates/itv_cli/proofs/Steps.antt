-- What a job reads that reads a design and then goes on.
use Rattle.std.proofs.Common.{◌≡◌, ℕ, List, Result, Ok, Err, IsErrAnd, refl}
use Rattle.itv_base.specs.Outside.{ShelfState}
use Rattle.drawn_networks.specs.Drawn.{Drawn}
use Rattle.design_reading.specs.declared.stop.Stop.{Stop}
use Rattle.design_reading.specs.Design.{design_at}
use Rattle.design_reading.specs.FileReading.{FileReading, gives, ◌>>=◌}
use Rattle.design_reading.specs.Step.{Opens}
use Rattle.design_reading.proofs.Opens.{opens_then, opens_up}
use Rattle.design_plan.specs.Plan.{PlanView}
use Rattle.itv_cli.specs.Job.{planned_at}
use Rattle.itv_cli.specs.declared.planned_network.PlannedNetwork as code
use Rattle.itv_cli.specs.declared.ready.Ready.{Ready}

-- the design was not read
pub design_up : (name : List ℕ) (f : Drawn → FileReading Ready) (old new : ShelfState) (s : Stop) (r : Result Ready Stop) → IsErrAnd r (λ e. e ≡ s) → Opens (λ (d : Drawn). d) old new (design_at name) (Err s)
    → Opens (λ given. given) old new (design_at name >>= f) r
design_up name f old new s r is h = opens_up (λ d. d) (λ given. given) (design_at name) f old new s r is h

-- the design was read, and then the rest is
pub design_then : (name : List ℕ) (f : Drawn → FileReading Ready) (old mid new : ShelfState) (drawn : Drawn) (r : Result Ready Stop) → Opens (λ (d : Drawn). d) old mid (design_at name) (Ok drawn)
    → Opens (λ given. given) mid new (f drawn) r → Opens (λ given. given) old new (design_at name >>= f) r
design_then name f old mid new drawn r h next = opens_then (λ d. d) (λ given. given) (design_at name) f old mid new drawn r h next

-- the design was read, and the job needs nothing else
pub design_ready : (name : List ℕ) (f : Drawn → Ready) (old new : ShelfState) (drawn : Drawn) → Opens (λ (d : Drawn). d) old new (design_at name) (Ok drawn)
    → Opens (λ given. given) old new (design_at name >>= (λ d. gives (f d))) (Ok (f drawn))
design_ready name f old new drawn h = design_then name (λ d. gives (f d)) old new new drawn (Ok (f drawn)) h (refl, refl)

-- ---- the same of a plan with what it draws

-- a plan with the network that it draws, without where they lie in memory
abbrev pub both : code.PlannedNetwork → PlanView × Drawn
both p = (p.plan, p.drawn)

pub planned_up : (name : List ℕ) (f : PlanView × Drawn → FileReading Ready) (old new : ShelfState) (s : Stop) (r : Result Ready Stop) → IsErrAnd r (λ e. e ≡ s) → Opens both old new (planned_at name) (Err s)
    → Opens (λ given. given) old new (planned_at name >>= f) r
planned_up name f old new s r is h = opens_up both (λ given. given) (planned_at name) f old new s r is h

-- the plan was read, and then the rest is
pub planned_then : (name : List ℕ) (f : PlanView × Drawn → FileReading Ready) (old mid new : ShelfState) (p : code.PlannedNetwork) (r : Result Ready Stop) → Opens both old mid (planned_at name) (Ok p)
    → Opens (λ given. given) mid new (f (both p)) r → Opens (λ given. given) old new (planned_at name >>= f) r
planned_then name f old mid new p r h next = opens_then both (λ given. given) (planned_at name) f old mid new p r h next

pub planned_ready : (name : List ℕ) (f : PlanView × Drawn → Ready) (old new : ShelfState) (p : code.PlannedNetwork) → Opens both old new (planned_at name) (Ok p)
    → Opens (λ given. given) old new (planned_at name >>= (λ d. gives (f d))) (Ok (f (both p)))
planned_ready name f old new p h = opens_then both (λ given. given) (planned_at name) (λ d. gives (f d)) old new new p (Ok (f (both p))) h (refl, refl)
