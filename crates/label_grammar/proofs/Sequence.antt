-- What is left of a label while its parts are written one after another.
use Rattle.std.proofs.Common.{◌≡◌, ℕ, List, ◌++◌, refl}
use Rattle.itv_base.specs.Range.{Ends}
use Rattle.itv_base.specs.Outside.{SinkState, grown}
use Rattle.itv_base.proofs.Written.{Left, left_all, left_after}
use Rattle.label_grammar.specs.Label.{LooseLabel, version_1, kind_text, shift_text, tag_text, ends_text, optional_text, note_text, spelling}

module _ (old : SinkState) (l : LooseLabel Ends) where
  abbrev after_tag : List ℕ
  after_tag = optional_text ends_text l.ends ++ note_text l.note

  abbrev after_shift : List ℕ
  after_shift = tag_text l.tag ++ after_tag

  abbrev after_kind : List ℕ
  after_kind = shift_text l.shift ++ after_shift

  -- the label up to its kind, its shift, its tag and its ends is put
  pub kind_put : (at_shift : SinkState) (word : List ℕ) → word ≡ kind_text l.kind → at_shift ≡ grown old word → Left old at_shift after_kind (spelling version_1 l)
  kind_put at_shift word is kind = left_after old old at_shift word after_kind (spelling version_1 l) (spelling version_1 l) (left_all old (spelling version_1 l)) (rw is refl) kind

  pub shift_put : (at_shift at_tag : SinkState) → Left old at_shift after_kind (spelling version_1 l) → at_tag ≡ grown at_shift (shift_text l.shift) → Left old at_tag after_shift (spelling version_1 l)
  shift_put at_shift at_tag left shift = left_after old at_shift at_tag (shift_text l.shift) after_shift after_kind (spelling version_1 l) left refl shift

  pub tag_put : (at_tag at_ends : SinkState) → Left old at_tag after_shift (spelling version_1 l) → at_ends ≡ grown at_tag (tag_text l.tag) → Left old at_ends after_tag (spelling version_1 l)
  tag_put at_tag at_ends left tag = left_after old at_tag at_ends (tag_text l.tag) after_tag after_shift (spelling version_1 l) left refl tag

  pub ends_put : (at_ends at_note : SinkState) → Left old at_ends after_tag (spelling version_1 l) → at_note ≡ grown at_ends (optional_text ends_text l.ends) → Left old at_note (note_text l.note) (spelling version_1 l)
  ends_put at_ends at_note left ends = left_after old at_ends at_note (optional_text ends_text l.ends) (note_text l.note) after_tag (spelling version_1 l) left refl ends
