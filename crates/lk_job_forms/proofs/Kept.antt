-- What holds of the value of a check, if it passes.
use Rattle.std.proofs.Common.{◌≡◌, Bool, true, false, Option, None, Some, Result, Ok, Err, IfOk, refl, if◌then◌else◌}
use Rattle.lk_forms.specs.Operations.{and_then, unless}
use Rattle.lk_forms.specs.declared.answers.Fault.{Fault}
use Rattle.lk_forms.specs.declared.answers.LineRefusal.{LineRefusal}

-- what follows a check
pub then_keeps : {A B : Type 0} (P : B → Type 0) (x : Result A LineRefusal) (next : A → Result B LineRefusal) → ((a : A) → x ≡ Ok a → IfOk (next a) P) → IfOk (and_then x next) P
then_keeps P (Ok a) next all = all a refl
then_keeps P (Err why) next all = tt

-- what follows a test
pub if_keeps : {A : Type 0} (P : A → Type 0) (b : Bool) (x y : Result A LineRefusal) → (b ≡ true → IfOk x P) → (b ≡ false → IfOk y P) → IfOk (if b then x else y) P
if_keeps P true x y passed failed = passed refl
if_keeps P false x y passed failed = failed refl

-- what follows a check that found nothing wrong
pub unless_keeps : {A : Type 0} (P : A → Type 0) (o : Option Fault) (x : Result A LineRefusal) → (o ≡ None → IfOk x P) → IfOk (unless o x) P
unless_keeps P None x fine = fine refl
unless_keeps P (Some fault) x fine = tt
