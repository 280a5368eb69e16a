-- How many calls of a processor are in the slow path.
use Rattle.std.proofs.Common.{◌≡◌, ℕ, zero, suc, ◌≤◌, List, [], ◌∷◌, length, Some, Bool, false, eqb}
use Rattle.std.proofs.Common.{ne_eqb, refl, sym, ap, ◌∙◌, arith, if◌then◌else◌}
use Rattle.lk_domain.proofs.Names.{LockHistory, LockName, Waiter, if-false, is_slow, IsSoundWorld}
use Rattle.lk_domain.proofs.Names.{World, Calls, Running, Stacked, frame_in, slows, Mirrors, waiter}
use Rattle.lk_law.proofs.common.Before.{before_top, before_same}
use Rattle.lk_law.specs.{Places.slow_in, Snapshot.before}
use Rattle.lk_domain.proofs.Stacks.{frame_in-above, frame_in-top}

none_before : (slow : Waiter → Bool) (p n : ℕ) → ((c : ℕ) → slow (waiter p c) ≡ false)
    → before slow p n ≡ 0
none_before slow p zero h = refl
none_before slow p (suc n) h = let r = none_before slow p n h in let z = h n in grind (arith, r, z)

slows_before : (rs : List Running) → Stacked rs → (slow : Waiter → Bool) (p n : ℕ) → length rs ≤ n
    → ((c : ℕ) → slow (waiter p c) ≡ slow_in (frame_in rs c)) → before slow p n ≡ slows rs
slows_before [] s slow p n h is = none_before slow p n is
slows_before (r ∷ rs) s slow p n h is =
    let d = length rs in
    let slow' : Waiter → Bool = λ u. slow_in (frame_in rs u.ctx) in
    let rest : before slow' p d ≡ slows rs = slows_before rs s.1 slow' p d (omega arith) (λ c. refl) in
    let top : before slow p n ≡ before slow p (suc d) =
    before_top slow p (suc d) n (λ e le. is e ∙ ap slow_in (frame_in-above (r ∷ rs) e s le)) (omega arith) in
    let low : before slow p d ≡ before slow' p d =
    before_same slow' slow p d (λ c lt. is c ∙ ap slow_in
    (if-false (eqb c r.frame.ctx) (Some r.frame) (frame_in rs c) (ne_eqb c r.frame.ctx (λ e. let x = s.0 in omega arith)))) in
    let here : slow (waiter p d) ≡ is_slow r.frame.place =
    is d ∙ (ap (λ c. slow_in (frame_in (r ∷ rs) c)) (sym s.0) ∙ ap slow_in (frame_in-top r rs)) in
    let bit : ◌≡◌ {A = ℕ} (if slow (waiter p d) then 1 else 0) (if is_slow r.frame.place then 1 else 0) =
    ap (λ b. if b then 1 else 0) here in
    top ∙ omega (arith, low, rest, bit)

-- the count of a processor is that of its calls in the slow path
pub queued_is : (m : World) (hs : LockName → LockHistory) → IsSoundWorld m hs → (p : ℕ) (c : Calls)
    → Mirrors m p c → Stacked c.frames → length c.frames ≤ 6 → m.queued p ≡ slows c.frames
queued_is m hs ok p c mirrors stacked few =
    ok.spins.agrees.nodes.counted p
    ∙ slows_before c.frames stacked (λ u. slow_in (m.frame u)) p 6 few (λ d. ap slow_in (mirrors.frames d))
