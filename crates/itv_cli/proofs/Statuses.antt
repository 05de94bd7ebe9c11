-- What the status of the program says.
use Rattle.std.proofs.Common.{◌≡◌, ℕ, List, [], Result, Ok, Err, MatchResult, refl}
use Rattle.std.specs.declared.io.ErrorKind.{ErrorKind}
use Rattle.std.specs.declared.io.ErrorKind.TheVariants.{OutOfMemory}
use Rattle.itv_base.specs.Outside.{ShelfState, SinkState}
use Rattle.itv_cli.specs.declared.outcome.Outcome.TheVariants.{NoMemory}
use Rattle.itv_cli.specs.Run.{call_of}
use Rattle.itv_cli.specs.Status.{EndsWith, HasNoWords, HasRun, code_of, nothing_failed, nothing_written}
use Rattle.itv_cli.specs.Status.EndsWith.{without_words, with_run}

-- where memory is missing before a run, the status is the status of a run that ends without memory
pub without_memory : (status : ℕ) → status ≡ code_of NoMemory → EndsWith status
without_memory status is = with_run [] nothing_failed nothing_written (NoMemory, record { sink = refl; shelf = refl }, is)

-- where there are no words
ends_without : (kind : ErrorKind) (shelf : ShelfState) (sink : SinkState) (status : ℕ) → HasNoWords kind nothing_failed shelf nothing_written sink status → EndsWith status
ends_without OutOfMemory shelf sink status h = without_memory status h.2
ends_without _ shelf sink status h = without_words h.2

-- the status whatever the system gives, over files and an output of which nothing is known
pub ends_with : {A E : Type 0} (words : A → List (List ℕ)) (kind : E → ErrorKind) (args : Result A E) (shelf : ShelfState) (sink : SinkState) (status : ℕ)
    → MatchResult args (λ given. HasRun (call_of (words given) nothing_failed shelf nothing_written sink) status) (λ error. HasNoWords (kind error) nothing_failed shelf nothing_written sink status)
    → EndsWith status
ends_with words kind (Ok given) shelf sink status h = with_run (words given) shelf sink h
ends_with words kind (Err error) shelf sink status h = ends_without (kind error) shelf sink status h
