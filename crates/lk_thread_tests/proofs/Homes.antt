-- No value is out while none was taken out: what the calls on locks leave.
use Rattle.std.proofs.Common.{◌≡◌, ◌∙◌, ℕ, Bool, true, false, List, length, refl, ap}
use Rattle.std.specs.Prelude.{◌&&◌, ◌||◌}
use Rattle.lk_names.specs.Names.{same_lock}
use Rattle.lk_names.specs.declared.holder.Manner.TheVariants.{Spins}
use Rattle.lk_rows.specs.declared.setup.Verb.{Verb}
use Rattle.lk_domain.specs.Calls.{Calls, Hold, Terms, holds_in, lock_name}
use Rattle.lk_domain.specs.Paths.{HasTaken, HasFreed}
use Rattle.lk_domain.specs.Values.{is_sole, out_in}
use Rattle.lk_domain.proofs.Outs.{freed_out, moved_out, unheld_out}

same_else : (a b r : Bool) → ((a && (b && false)) || r) ≡ r
same_else true true r = refl
same_else true false r = refl
same_else false b r = refl

-- a lock that is taken has its value home
pub taken_home : (t : Terms) (p : ℕ) (v : Verb) (i : ℕ) (old new : Calls) → HasTaken t p v i Spins old new
    → (l : ℕ) → out_in old.holds l ≡ false → out_in new.holds l ≡ false
taken_home t p v i old new taken l home =
    ap (λ (hs : List Hold). out_in hs l) taken.holds
    ∙ (same_else (same_lock (lock_name i) (lock_name l)) (is_sole Spins) (out_in old.holds l) ∙ home)

-- so has one that is taken and was not held
pub fresh_home : (t : Terms) (p : ℕ) (v : Verb) (i : ℕ) (old new : Calls) → HasTaken t p v i Spins old new
    → holds_in old.holds i ≡ false → out_in new.holds i ≡ false
fresh_home t p v i old new taken free = taken_home t p v i old new taken i (unheld_out old.holds i free)

-- and to free one leaves the others home
pub freed_home : (i : ℕ) (old new : Calls) → HasFreed i old new → (l : ℕ) → out_in old.holds l ≡ false → out_in new.holds l ≡ false
freed_home i old new freed l home =
    ap (λ (hs : List Hold). out_in hs l) freed.holds
    ∙ freed_out (length old.frames) (lock_name i) _ l (moved_out (length old.frames) (lock_name i) old.holds l ∙ home)
