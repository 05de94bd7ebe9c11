use Rattle.std.specs.List.{slice_split}
use Rattle.line_words.specs.Lines.{is_feed}
use Rattle.measured_times.proofs.RunTexts.{read_for}
use Rattle.measured_times.proofs.file.read_times.Goals as goal

pub returns-clause-for_events : goal.returns-clause-for_events
returns-clause-for_events c = read_for c.args.events (slice_split is_feed c.args.bytes.now) c.read_lines.result c.read_lines.ensures
