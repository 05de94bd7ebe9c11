-- Readings step by step, and their results over known files.
use Rattle.std.proofs.Common.{◌≡◌, ℕ, ◌+◌, ◌≤◌, Bool, true, false, cond, List, [], ◌∷◌, length, take, drop, All, Option, Some, None, IsNone, option_map, Result, Ok, Err, IsErrAnd, refl, sym, ap, ◌∙◌, subst, inl, inr}
use Rattle.std.specs.Option.{option_map_or}
use Rattle.std.proofs.lemmas.List.{drop_all}
use Rattle.std.proofs.lemmas.List.Elements.{All-cons, All-nil}
use Rattle.std.proofs.lemmas.Option.{none-some, same_Some}
use Rattle.itv_base.specs.Outside.{Files, ShelfState, HasFront, file_of}
use Rattle.itv_base.specs.Reading.{UnlessTrue, IsReadingFault}
use Rattle.design_reading.specs.declared.refusal_place.RefusalPlace.{RefusalPlace}
use Rattle.design_reading.specs.declared.refusal.Refusal.{Refusal}
use Rattle.design_reading.specs.declared.stop.Stop.{Stop}
use Rattle.design_reading.specs.declared.stop.Stop.TheVariants.{Refused, ReadFault, NoMemory}
use Rattle.design_reading.specs.FileReading.{FileReading, gives, refuses, fetches, ◌>>=◌, at, each, End, ready, refused, unread, RunsTo, end_over}
use Rattle.design_reading.specs.Step.{Opens, ReadsAs, stop_of}

-- ---- one reading, and then another

-- the first gave something, and the second ended
pub comes_then : {A B : Type 0} (shelf : ShelfState) (o : FileReading A) (f : A → FileReading B) (x : A) (end : End B) → RunsTo shelf o (ready x) → RunsTo shelf (f x) end → RunsTo shelf (o >>= f) end
comes_then shelf (gives y) f x end c h = let same : x ≡ y = cc c in subst (λ z. RunsTo shelf (f z) end) same h
comes_then shelf (refuses place why) f x end c h = absurd (cc c)
comes_then shelf (fetches place name most next) f x end (inl e) h = absurd (cc e)
comes_then shelf (fetches place name most next) f x end (inr (bytes, front, c)) h = inr (bytes, front, comes_then shelf (next bytes) f x end c h)

pub comes_refused : {A B : Type 0} (shelf : ShelfState) (o : FileReading A) (f : A → FileReading B) (place : RefusalPlace) (why : Refusal) → RunsTo shelf o (refused place why) → RunsTo shelf (o >>= f) (refused place why)
comes_refused shelf (gives y) f place why c = absurd (cc c)
comes_refused shelf (refuses other reason) f place why c = let p : place ≡ other = cc c in let w : why ≡ reason = cc c in rw (p, w) refl
comes_refused shelf (fetches other name most next) f place why (inl e) = absurd (cc e)
comes_refused shelf (fetches other name most next) f place why (inr (bytes, front, c)) = inr (bytes, front, comes_refused shelf (next bytes) f place why c)

pub comes_unread : {A B : Type 0} (shelf : ShelfState) (o : FileReading A) (f : A → FileReading B) (place : RefusalPlace) (name : List ℕ) → RunsTo shelf o (unread place name) → RunsTo shelf (o >>= f) (unread place name)
comes_unread shelf (gives y) f place name c = absurd (cc c)
comes_unread shelf (refuses other why) f place name c = absurd (cc c)
comes_unread shelf (fetches other asked most next) f place name (inl e) = let p : place ≡ other = cc e in let n : name ≡ asked = cc e in inl (rw (p, n) refl)
comes_unread shelf (fetches other asked most next) f place name (inr (bytes, front, c)) = inr (bytes, front, comes_unread shelf (next bytes) f place name c)

module _ {A B X Y : Type 0} (va : X → A) (vb : Y → B) (o : FileReading A) (f : A → FileReading B) where
  then_on : (old new : ShelfState) (x : X) (r : Result Y Stop) → RunsTo old o (ready (va x)) → Opens vb old new (f (va x)) r → Opens vb old new (o >>= f) r
  then_on old new x (Ok y) c h = (comes_then old o f (va x) (ready (vb y)) c h.0, h.1)
  then_on old new x (Err (Refused place why)) c h = (comes_then old o f (va x) (refused place why) c h.0, h.1)
  then_on old new x (Err (ReadFault place)) c h = (h.0, (comes_then old o f (va x) (unread place h.0) c h.1.0, h.1.1))
  then_on old new x (Err NoMemory) c h = h

  -- a step gave something, and the next continues with it
  pub opens_then : (old mid new : ShelfState) (x : X) (r : Result Y Stop) → Opens va old mid o (Ok x) → Opens vb mid new (f (va x)) r → Opens vb old new (o >>= f) r
  opens_then old mid new x r h next = then_on old new x r h.0 (subst (λ state. Opens vb state new (f (va x)) r) h.1 next)

  -- a step gave nothing
  pub opens_stop : (old new : ShelfState) (s : Stop) → Opens va old new o (Err s) → Opens vb old new (o >>= f) (Err s)
  opens_stop old new (Refused place why) h = (comes_refused old o f place why h.0, h.1)
  opens_stop old new (ReadFault place) h = (h.0, (comes_unread old o f place h.0 h.1.0, h.1.1))
  opens_stop old new NoMemory h = h

  -- a step failed, and its fault is passed on
  pub opens_up : (old new : ShelfState) (s : Stop) (r : Result Y Stop) → IsErrAnd r (λ e. e ≡ s) → Opens va old new o (Err s) → Opens vb old new (o >>= f) r
  opens_up old new s (Ok y) is h = absurd is
  opens_up old new s (Err e) is h = rw is (opens_stop old new s h)

-- a file was fetched, and its front is read on
module _ {A X : Type 0} (v : X → A) (place : RefusalPlace) (name : List ℕ) (most : ℕ) (next : List ℕ → FileReading A) (bytes : List ℕ) where
  fetched_on : (old new : ShelfState) (r : Result X Stop) → HasFront old.files name most bytes → Opens v old new (next bytes) r → Opens v old new (fetches place name most next) r
  fetched_on old new (Ok x) front h = (inr (bytes, front, h.0), h.1)
  fetched_on old new (Err (Refused other why)) front h = (inr (bytes, front, h.0), h.1)
  fetched_on old new (Err (ReadFault other)) front h = (h.0, (inr (bytes, front, h.1.0), h.1.1))
  fetched_on old new (Err NoMemory) front h = h

  pub opens_fetched : (old new : ShelfState) (r : Result X Stop) → new ≡ old → HasFront old.files name most bytes → ReadsAs v (next bytes) r → Opens v old new (fetches place name most next) r
  opens_fetched old new r kept front h = fetched_on old new r front (subst (λ state. Opens v state new (next bytes) r) kept (h new))

-- ---- loops

-- some of a reading is done, and the rest is left
pub record Resumes {A : Type 0} (old now : ShelfState) (whole rest : FileReading A) : Type 0 where
  pub same : now ≡ old
  pub goes_on : (end : End A) → RunsTo old rest end → RunsTo old whole end

pub resumes_all : {A : Type 0} (old : ShelfState) (whole : FileReading A) → Resumes old old whole whole
resumes_all old whole = record { same = refl; goes_on = λ end c. c }

pub resumes_after : {A B X : Type 0} (va : X → A) (old now next : ShelfState) (whole : FileReading B) (o : FileReading A) (f : A → FileReading B) (x : X)
    → Resumes old now whole (o >>= f) → Opens va now next o (Ok x) → Resumes old next whole (f (va x))
resumes_after va old now next whole o f x done h = record {
  same = h.1 ∙ done.same;
  goes_on = λ end c. done.goes_on end (comes_then old o f (va x) end (subst (λ state. RunsTo state o (ready (va x))) done.same h.0) c);
}

module _ {A X : Type 0} (v : X → A) (whole rest : FileReading A) where
  end_on : (old new : ShelfState) (r : Result X Stop) → ((end : End A) → RunsTo old rest end → RunsTo old whole end) → Opens v old new rest r → Opens v old new whole r
  end_on old new (Ok x) on h = (on (ready (v x)) h.0, h.1)
  end_on old new (Err (Refused place why)) on h = (on (refused place why) h.0, h.1)
  end_on old new (Err (ReadFault place)) on h = (h.0, (on (unread place h.0) h.1.0, h.1.1))
  end_on old new (Err NoMemory) on h = h

  -- the rest ends the whole
  pub resumes_end : (old now new : ShelfState) (r : Result X Stop) → Resumes old now whole rest → Opens v now new rest r → Opens v old new whole r
  resumes_end old now new r done h = end_on old new r done.goes_on (subst (λ state. Opens v state new rest r) done.same h)

-- the elements of a list, one by one
module _ {A X : Type 0} (step : ℕ → A → X → FileReading A) (old now new : ShelfState) (whole : FileReading A) (xs : List X) (number k : ℕ) (x : X) (done : A)
    (next : drop k xs ≡ x ∷ drop (k + 1) xs) (so_far : Resumes old now whole (each step number done (drop k xs))) where
  stepped : Resumes old now whole (step number done x >>= (λ more. each step (number + 1) more (drop (k + 1) xs)))
  stepped = subst (λ o. Resumes old now whole o) (ap (each step number done) next) so_far

  -- the step of one more element is done
  pub each_next : {Y : Type 0} (v : Y → A) (y : Y) → Opens v now new (step number done x) (Ok y) → Resumes old new whole (each step (number + 1) (v y) (drop (k + 1) xs))
  each_next v y h = resumes_after v old now new whole (step number done x) (λ more. each step (number + 1) more (drop (k + 1) xs)) y stepped h

  -- the step of the next element gives nothing
  pub each_stop : {Y Z : Type 0} (v : Y → A) (w : Z → A) (s : Stop) (r : Result Z Stop) → IsErrAnd r (λ e. e ≡ s) → Opens v now new (step number done x) (Err s) → Opens w old new whole r
  each_stop v w s r is h =
      resumes_end w whole (step number done x >>= (λ more. each step (number + 1) more (drop (k + 1) xs))) old now new r stepped
      (opens_up v w (step number done x) (λ more. each step (number + 1) more (drop (k + 1) xs)) now new s r is h)

-- all elements are done
pub each_end : {A X Y : Type 0} (step : ℕ → A → X → FileReading A) (old now : ShelfState) (whole : FileReading A) (xs : List X) (number k : ℕ) (v : Y → A) (y : Y) → length xs ≤ k
    → Resumes old now whole (each step number (v y) (drop k xs)) → Opens v old now whole (Ok y)
each_end step old now whole xs number k v y past so_far =
    let last : Resumes old now whole (gives (v y)) = subst (λ left. Resumes old now whole (each step number (v y) left)) (drop_all k xs past) so_far in
    resumes_end v whole (gives (v y)) old now now (Ok y) last (refl, refl)

-- ---- readers

pub at_ok : {A F : Type 0} (state : ShelfState) (place : RefusalPlace) (why : F → Refusal) (reading : Result A F) (x : A) → reading ≡ Ok x → RunsTo state (at place why reading) (ready x)
at_ok state place why reading x e = rw e refl

at_by : {A B F : Type 0} (v : B → A) (state : ShelfState) (place : RefusalPlace) (why : F → Refusal) (reading : Result A F) (fault : F) (b : Bool) → UnlessTrue b (reading ≡ Err fault)
    → Opens v state state (at place why reading) (Err (cond b NoMemory (Refused place (why fault))))
at_by v state place why reading fault true h = refl
at_by v state place why reading fault false h = rw h (refl, refl)

-- the fault of a reader at a place
pub at_err : {A B F : Type 0} (is_memory : F → Bool) (v : B → A) (state : ShelfState) (place : RefusalPlace) (why : F → Refusal) (reading : Result A F) (fault : F) → IsReadingFault is_memory reading fault
    → Opens v state state (at place why reading) (Err (stop_of is_memory why place fault))
at_err is_memory v state place why reading fault h = at_by v state place why reading fault (is_memory fault) h

-- ---- the results of steps

-- two readings, one after another, gave something
pub opening_then : {A B : Type 0} (shelf : ShelfState) (o : FileReading A) (f : A → FileReading B) (y : B) → RunsTo shelf (o >>= f) (ready y)
    → (x : A) × RunsTo shelf o (ready x) × RunsTo shelf (f x) (ready y)
opening_then shelf (gives x) f y comes = (x, refl, comes)
opening_then shelf (refuses place why) f y comes = absurd (cc comes)
opening_then shelf (fetches place name most next) f y (inl is) = absurd (cc is)
opening_then shelf (fetches place name most next) f y (inr (bytes, front, comes)) =
    let (x, first, then') = opening_then shelf (next bytes) f y comes in (x, inr (bytes, front, first), then')

-- what was read already is what the reading gives
pub at_gave : {A F : Type 0} (shelf : ShelfState) (place : RefusalPlace) (why : F → Refusal) (r : Result A F) (x : A) → RunsTo shelf (at place why r) (ready x) → r ≡ Ok x
at_gave shelf place why (Ok y) x comes = let same : x ≡ y = cc comes in ap (λ z. Ok z) (sym same)
at_gave shelf place why (Err fault) x comes = absurd (cc comes)

-- a reading that gives something ended with it
pub gave : {A : Type 0} (shelf : ShelfState) (x y : A) → RunsTo shelf (gives x) (ready y) → x ≡ y
gave shelf x y comes = cc comes

-- what each step keeps, all steps keep
pub each_keeps : {A X : Type 0} (P : A → Type 0) (shelf : ShelfState) (step : ℕ → A → X → FileReading A) → ((n : ℕ) (a b : A) (x : X) → P a → RunsTo shelf (step n a x) (ready b) → P b)
    → (n : ℕ) (done last : A) (xs : List X) → P done → RunsTo shelf (each step n done xs) (ready last) → P last
each_keeps P shelf step keeps n done last [] holds comes = subst P (gave shelf done last comes) holds
each_keeps P shelf step keeps n done last (x ∷ xs) holds comes =
    let (more, first, rest) = opening_then shelf (step n done x) (λ next. each step (n + 1) next xs) last comes in
    each_keeps P shelf step keeps (n + 1) more last xs (keeps n done more x holds first) rest

-- what the step of each element brings, and each step keeps, holds of all elements
pub each_brings : {A X : Type 0} (R : X → A → Type 0) (shelf : ShelfState) (step : ℕ → A → X → FileReading A) → ((n : ℕ) (a b : A) (x : X) → RunsTo shelf (step n a x) (ready b) → R x b)
    → ((y : X) (n : ℕ) (a b : A) (x : X) → R y a → RunsTo shelf (step n a x) (ready b) → R y b)
    → (n : ℕ) (done last : A) (xs : List X) → RunsTo shelf (each step n done xs) (ready last) → All (λ x. R x last) xs
each_brings R shelf step brings keeps n done last [] comes = All-nil (λ x. R x last)
each_brings R shelf step brings keeps n done last (x ∷ xs) comes =
    let (more, first, rest) = opening_then shelf (step n done x) (λ next. each step (n + 1) next xs) last comes in
    All-cons (λ x. R x last) x xs (each_keeps (R x) shelf step (keeps x) (n + 1) more last xs (brings n done more x first) rest) (each_brings R shelf step brings keeps (n + 1) more last xs rest)

-- ---- over known files

front_by : {A : Type 0} (files : Files) (most : ℕ) (bytes : List ℕ) (next : List ℕ → FileReading A) (end other : End A) (o : Option (List ℕ)) → option_map (take most) o ≡ Some bytes
    → end_over files (next bytes) ≡ end → option_map_or (λ file. end_over files (next (take most file))) o other ≡ end
front_by files most bytes next end other None e h = absurd (none-some bytes e)
front_by files most bytes next end other (Some file) e h = ap (λ front. end_over files (next front)) (same_Some (take most file) bytes e) ∙ h

told_front : {A : Type 0} (state : Option Files) (files : Files) (most : ℕ) (name bytes : List ℕ) (next : List ℕ → FileReading A) (place : RefusalPlace) (end : End A) → state ≡ Some files
    → HasFront state name most bytes → end_over files (next bytes) ≡ end → end_over files (fetches place name most next) ≡ end
told_front None files most name bytes next place end e front h = absurd (none-some files e)
told_front (Some others) files most name bytes next place end e front h =
    front_by files most bytes next end (unread place name) (file_of files name) (subst (λ (all : Files). option_map (take most) (file_of all name) ≡ Some bytes) (same_Some others files e) front) h

-- a reading that did not end at a file that could not be read ends as the files say
pub told_ready : {A : Type 0} (shelf : ShelfState) (files : Files) (o : FileReading A) (x : A) → shelf.files ≡ Some files → RunsTo shelf o (ready x) → end_over files o ≡ ready x
told_ready shelf files (gives y) x e c = sym c
told_ready shelf files (refuses place why) x e c = absurd (cc c)
told_ready shelf files (fetches place name most next) x e (inl c) = absurd (cc c)
told_ready shelf files (fetches place name most next) x e (inr (bytes, front, c)) = told_front shelf.files files most name bytes next place (ready x) e front (told_ready shelf files (next bytes) x e c)

pub told_refused : {A : Type 0} (shelf : ShelfState) (files : Files) (o : FileReading A) (place : RefusalPlace) (why : Refusal) → shelf.files ≡ Some files → RunsTo shelf o (refused place why)
    → end_over files o ≡ refused place why
told_refused shelf files (gives y) place why e c = absurd (cc c)
told_refused shelf files (refuses other reason) place why e c = sym c
told_refused shelf files (fetches other name most next) place why e (inl c) = absurd (cc c)
told_refused shelf files (fetches other name most next) place why e (inr (bytes, front, c)) =
    told_front shelf.files files most name bytes next other (refused place why) e front (told_refused shelf files (next bytes) place why e c)

missing_by : {A : Type 0} (files : Files) (most : ℕ) (next : List ℕ → FileReading A) (other : End A) (o : Option (List ℕ)) → IsNone o → option_map_or (λ file. end_over files (next (take most file))) o other ≡ other
missing_by files most next other None h = refl
missing_by files most next other (Some file) h = absurd (cc h)

-- a reading that ended at a file that is not there ends as the files say
pub told_unread : {A : Type 0} (shelf : ShelfState) (files : Files) (o : FileReading A) (place : RefusalPlace) (name : List ℕ) → shelf.files ≡ Some files → IsNone (file_of files name) → RunsTo shelf o (unread place name)
    → end_over files o ≡ unread place name
told_unread shelf files (gives y) place name e none c = absurd (cc c)
told_unread shelf files (refuses other why) place name e none c = absurd (cc c)
told_unread shelf files (fetches other asked most next) place name e none (inl c) =
    let asks : name ≡ asked = cc c in
    missing_by files most next (unread other asked) (file_of files asked) (subst (λ n. IsNone (file_of files n)) asks none) ∙ sym c
told_unread shelf files (fetches other asked most next) place name e none (inr (bytes, front, c)) =
    told_front shelf.files files most asked bytes next other (unread place name) e front (told_unread shelf files (next bytes) place name e none c)
