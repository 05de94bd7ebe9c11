-- Facts of results.
use Rattle.std.proofs.Common.{Ok, Err, IfOk, OnErr, OnOk, Result, Option, Some, None, ◌≡◌, true, false, is_none, is_some, refl}

pub on_err : {T E : Type 0} (r : Result T E) (P : Type 0) → P → OnErr r P
on_err (Ok x) P p = tt
on_err (Err e) P p = p

pub if_ok_then : {T E : Type 0} (r : Result T E) (P Q : T → Type 0) → IfOk r P → ((x : T) → P x → Q x) → IfOk r Q
if_ok_then (Ok x) P Q p f = f x p
if_ok_then (Err e) P Q p f = tt

pub on_err_then : {T E : Type 0} (r : Result T E) (P Q : Type 0) → OnErr r P → (P → Q) → OnErr r Q
on_err_then (Ok x) P Q p f = tt
on_err_then (Err e) P Q p f = f p

pub is_none-some : {X : Type 0} (o : Option X) → is_some o ≡ true → is_none o ≡ false
is_none-some None some = cc
is_none-some (Some x) some = refl

pub unreached : {X : Type 0} (o : Option X) → o ≡ None → is_none o ≡ true
unreached None none = refl
unreached (Some x) none = absurd (cc)

pub on_ok_then : {T E : Type 0} (r : Result T E) (P Q : Type 0) → OnOk r P → (P → Q) → OnOk r Q
on_ok_then (Ok x) P Q p f = f p
on_ok_then (Err e) P Q p f = tt
