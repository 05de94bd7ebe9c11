-- Building the command, one argument after another.
use Rattle.std.proofs.Common.{◌≡◌, false, Result, Ok, Err, IfOk, ◌∙◌, ap}
use Rattle.std.specs.declared.alloc.AllocError.{AllocError}
use Rattle.clap.specs.Built.{AddsArg}
use Rattle.clap.specs.Simple.{App, app_of, with_rule}
use Rattle.clap.specs.Walk.{Rule, rule_of}
use Rattle.clap.specs.declared.builder.arg.Arg.{Arg}
use Rattle.clap.specs.declared.builder.command.Command.{Command}

-- the command with one more argument
pub added : (old new : Command) (arg : Arg) (app : App) (rule : Rule) → AddsArg old arg new → arg.global ≡ false → app_of old ≡ app → rule_of arg ≡ rule → app_of new ≡ with_rule app rule
added old new arg app rule adds own was is = adds.shape own ∙ ap (λ a. with_rule a (rule_of arg)) was ∙ ap (with_rule app) is

-- the command with the last argument, if memory was found for it
pub added_last : (old : Command) (result : Result Command AllocError) (arg : Arg) (app : App) (rule : Rule) → IfOk result (λ new. AddsArg old arg new) → arg.global ≡ false → app_of old ≡ app → rule_of arg ≡ rule
    → IfOk result (λ new. app_of new ≡ with_rule app rule)
added_last old (Ok new) arg app rule adds own was is = added old new arg app rule adds own was is
added_last old (Err e) arg app rule adds own was is = tt
