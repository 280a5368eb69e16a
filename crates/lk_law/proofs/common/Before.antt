-- How many waiters of a processor are in the slow path below a context; and so each node is used by
-- one waiter.
use Rattle.std.proofs.Common.{◌≡◌, ◌≢◌, ℕ, zero, suc, Bool, true, false, inl, inr, arith, ap, ◌<◌}
use Rattle.std.proofs.Common.{◌≤◌, ◌+◌, refl, sym, ◌∙◌, subst}
use Rattle.std.proofs.lemmas.Bool.{cases_order}
use Rattle.lk_law.proofs.Names.{cases_Bool, cases_eq, cases_lt, NodeName, LockName, Waiter, Phase}
use Rattle.lk_law.proofs.Names.{has_node, Moves, NodesAgree, before}

abbrev at : ℕ → ℕ → Waiter
at p c = record { cpu = p; ctx = c }

pub before_same : (f g : Waiter → Bool) (p c : ℕ) → ((d : ℕ) → d < c → g (at p d) ≡ f (at p d))
    → before g p c ≡ before f p c
before_same f g p zero h = refl
before_same f g p (suc c) h =
    let e = before_same f g p c (λ d lt. h d (omega arith)) in
    let now = h c (omega arith) in
    cc

before_step : (f : Waiter → Bool) (p c : ℕ) → before f p c ≤ before f p (suc c)
before_step f p c = grind (arith, cases_Bool (f (at p c)))

before_le : (f : Waiter → Bool) (p c d : ℕ) → c ≤ d → before f p c ≤ before f p d
before_le f p c zero h = grind arith
before_le f p c (suc d) h =
    elim (cases_eq c (suc d)) [
      | inl e ↦ let F : ℕ → Type 0 = λ n. before f p c ≤ before f p n in subst F e (omega arith)
      | inr n ↦ let low = before_le f p c d (omega arith) in let s = before_step f p d in
          omega arith
    ]

-- a frame that counts makes the number rise
pub before_lt : (f : Waiter → Bool) (p c d : ℕ) → f (at p c) ≡ true → c < d
    → before f p c < before f p d
before_lt f p c d t h =
    let low = before_le f p (suc c) d (omega arith) in
    let step : before f p (suc c) ≡ before f p c + 1 = grind (arith, t) in
    omega arith

-- one frame less
pub before_drop : (f g : Waiter → Bool) (w : Waiter) (c : ℕ) → Moves f g w true false → w.ctx < c
    → before g w.cpu c + 1 ≡ before f w.cpu c
before_drop f g w zero m h = absurd (omega arith)
before_drop f g w (suc c) m h =
    elim (cases_eq w.ctx c) [
      | inl e ↦
          let below = before_same f g w.cpu w.ctx
          (λ d lt. m.others (at w.cpu d)
          (λ q. let z = ap (λ (v : Waiter). v.ctx) q in omega arith)) in
          let P : ℕ → Type 0 = λ n. before g w.cpu (suc n) + 1 ≡ before f w.cpu (suc n) in
          subst P e (grind (arith, below, m.was, m.now))
      | inr n ↦
          let r = before_drop f g w c m (omega arith) in
          let o = m.others (at w.cpu c) (λ q. n (sym (ap (λ (v : Waiter). v.ctx) q))) in
          grind (arith, r, o)
    ]

-- another processor's number stays
pub before_else : (f g : Waiter → Bool) (w : Waiter) (b b' : Bool) (p c : ℕ) → Moves f g w b b'
    → p ≢ w.cpu → before g p c ≡ before f p c
before_else f g w b b' p c m h =
    before_same f g p c (λ d lt. m.others (at p d) (λ q. h (ap (λ (v : Waiter). v.cpu) q)))

-- two waiters with one node are one
pub nodes_apart : {phase : LockName → Waiter → Phase} {own : Waiter → NodeName}
    {slow : Waiter → Bool} {queued : ℕ → ℕ}
    → NodesAgree phase own slow queued → (k l : LockName) (u v : Waiter)
    → has_node (phase k u) ≡ true → has_node (phase l v) ≡ true → own u ≡ own v → u ≡ v
nodes_apart {slow = slow} ok k l u v hu hv e =
    let pu = ok.placed k u hu in let pv = ok.placed l v hv in
    let cpus : u.cpu ≡ v.cpu = ap (λ (n : NodeName). n.cpu) (sym pu ∙ e ∙ pv) in
    let counts : before slow u.cpu u.ctx ≡ before slow v.cpu v.ctx =
    ap (λ (n : NodeName). n.index) (sym pu ∙ e ∙ pv) in
    let counts' : before slow v.cpu u.ctx ≡ before slow v.cpu v.ctx = rw cpus at counts in
    elim (cases_order u.ctx v.ctx) [
      | inl c ↦ (λ i. record { cpu = cpus i; ctx = c i })
      | inr o ↦ elim o [
        | inl lt ↦ let s : slow (at v.cpu u.ctx) ≡ true = rw cpus at (ok.slowly k u hu) in
            absurd (let z = before_lt slow v.cpu u.ctx v.ctx s lt in omega arith)
        | inr gt ↦ absurd (let z = before_lt slow v.cpu v.ctx u.ctx (ok.slowly l v hv) gt in
            omega arith)
      ]
    ]

-- nothing counts from the top frame on
pub before_top : (f : Waiter → Bool) (p c d : ℕ) → ((e : ℕ) → c ≤ e → f (at p e) ≡ false) → c ≤ d
    → before f p d ≡ before f p c
before_top f p c zero h le = let P : ℕ → Type 0 = λ n. before f p zero ≡ before f p n in
    let e : zero ≡ c = omega arith in subst P e refl
before_top f p c (suc d) h le =
    elim (cases_eq c (suc d)) [
      | inl e ↦ let P : ℕ → Type 0 = λ n. before f p (suc d) ≡ before f p n in subst P (sym e) refl
      | inr n ↦ let r = before_top f p c d h (omega arith) in let z = h d (omega arith) in
          grind (arith, r, z)
    ]

-- one frame more
pub before_grow : (f g : Waiter → Bool) (w : Waiter) (c : ℕ) → Moves f g w false true → w.ctx < c
    → before g w.cpu c ≡ before f w.cpu c + 1
before_grow f g w c m h =
    let back : Moves g f w true false =
    record { was = m.now; now = m.was; others = λ u n. sym (m.others u n) } in
    sym (before_drop g f w c back h)

-- a node in use is below the queue count
pub node_used : {phase : LockName → Waiter → Phase} {own : Waiter → NodeName} {slow : Waiter → Bool}
    {queued : ℕ → ℕ}
    → NodesAgree phase own slow queued → (w : Waiter) → slow w ≡ false
    → ((c : ℕ) → w.ctx < c → slow (at w.cpu c) ≡ false) → w.ctx < 6 → (k : LockName) (u : Waiter)
    → has_node (phase k u) ≡ true → own u ≢ record { cpu = w.cpu; index = queued w.cpu }
node_used {slow = slow} {queued = queued} ok w idle top low k u h e =
    let pu = ok.placed k u h in
    let cpus : u.cpu ≡ w.cpu = ap (λ (n : NodeName). n.cpu) (sym pu ∙ e) in
    let counts : before slow u.cpu u.ctx ≡ queued w.cpu =
    ap (λ (n : NodeName). n.index) (sym pu ∙ e) in
    let counts' : before slow w.cpu u.ctx ≡ before slow w.cpu 6 =
    (rw cpus at counts) ∙ ok.counted w.cpu in
    let off : (d : ℕ) → w.ctx ≤ d → slow (at w.cpu d) ≡ false =
    λ d le. elim
    (cases_eq w.ctx d) [
      | inl q ↦ let P : ℕ → Type 0 = λ n. slow (at w.cpu n) ≡ false in
          subst P q idle
      | inr n ↦ top d (omega arith)
    ] in
    let all = before_top slow w.cpu w.ctx 6 off (omega arith) in
    let mine : slow (at w.cpu u.ctx) ≡ true = rw cpus at (ok.slowly k u h) in
    elim (cases_lt u.ctx w.ctx) [
      | inl lt ↦ let z = before_lt slow w.cpu u.ctx w.ctx mine lt in omega arith
      | inr ge ↦ let z = off u.ctx ge in grind (arith, mine, z)
    ]
