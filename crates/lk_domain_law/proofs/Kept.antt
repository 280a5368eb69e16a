-- The order of calls is kept by each call that begins, and by each row.
use Rattle.std.proofs.Common.{◌≡◌, ◌≢◌, ◌⊎◌, inl, inr, ℕ, ◌+◌, ◌<◌, List, [], ◌∷◌, ◌++◌, length, Option, Some, None, Bool}
use Rattle.std.proofs.Common.{true, false, eqb, eq-eqb, ne_eqb, refl, sym, ap, ◌∙◌, subst, arith}
use Rattle.std.proofs.lemmas.Bool.{cases_Bool, cases_eq, cases_lt}
use Rattle.std.specs.Prelude.{if◌then◌else◌, ◌&&◌, not}
use Rattle.lk_names.specs.Names.{same_lock}
use Rattle.lk_names.specs.declared.holder.Manner.{Manner}
use Rattle.lk_names.specs.declared.names.LockName.{LockName}
use Rattle.lk_names.specs.declared.names.Mode.{Mode}
use Rattle.lk_names.specs.declared.names.Mode.TheVariants.{Virt, Native, Cna, Pv}
use Rattle.lk_rows.specs.declared.parts.Frame.{Frame}
use Rattle.lk_rows.specs.declared.parts.Pc.{Pc}
use Rattle.lk_rows.specs.declared.setup.Verb.{Verb}
use Rattle.lk_rows.specs.declared.setup.Verb.TheVariants.{Lock, Try, Unlock, Read, TryRead}
use Rattle.lk_rows.specs.declared.setup.Verb.TheVariants.{RUnlock, Write, TryWrite, WUnlock}
use Rattle.lk_rows.specs.TopRow.{Target, RwWord, target}
use Rattle.lk_law.specs.Leads.{Course, held_lock}
use Rattle.lk_law.specs.Steps.{led}
use Rattle.lk_law.proofs.common.Cases.{lock_cases}
use Rattle.lk_law.proofs.common.Puts.{if-true, if-false, not-true}
use Rattle.lk_law.proofs.common.Sames.{same_lock-true}
use Rattle.lk_domain.specs.Calls.{AreFresh, Calls, Grip, Unchanged, Takes, Frees, Hold, Mark, Outlook, Running, Stacked, after}
use Rattle.lk_domain.specs.Calls.{begin, begun, course, frame_in, frames_after, grip_of, held_in, holds_after}
use Rattle.lk_domain.specs.Calls.{holds_begun, holds_in, is_seeking, lock_name, mark, moved_to, plain, read_at, row_at}
use Rattle.lk_domain.specs.Calls.{row_on, running, setting, sight_by, sight_of, waits_in}
use Rattle.lk_domain.proofs.Stacks.{and_false, and_parts, frame_in-above, frame_in-top, freed, moved-away, moved-else, unheld}
use Rattle.lk_domain.proofs.rows.Went.{led_ctx, led_index}
use Rattle.lk_domain_law.specs.InOrder.{AreCallsBelow, AreHoldsBelow, IsInOrder, is_trying, may_wait, may_wait_at}
use Rattle.lk_domain_law.specs.Kept.{BeginsKeepOrder, RanksAbove, RanksAreAsked, RowsKeepOrder, waits_for}
use Rattle.lk_domain_law.proofs.Newest.{at_top, below_top, none_some, some_is}
use Rattle.lk_domain_law.proofs.Quiet.{quiet}

-- holds

holds_it : (hs : List Hold) (d k : ℕ) (way : Manner) → held_in hs d (lock_name k) ≡ Some way → holds_in hs k ≡ true
holds_it hs d k way is = elim (cases_Bool (holds_in hs k)) [
  | inl e ↦ e
  | inr e ↦ absurd (none_some (sym (unheld hs d k e) ∙ is))
]

-- what a context holds after a row of another, or of another lock, it held before
after_less : (y : Grip) (d : ℕ) (l : LockName) (n : ℕ) (hs : List Hold) (e : ℕ) (k : LockName) (way : Manner)
    → ((eqb e d) && same_lock k l) ≡ false → held_in (holds_after y d l n hs) e k ≡ Some way → held_in hs e k ≡ Some way
after_less Unchanged d l n hs e k way off is = is
after_less (Takes m) d l n hs e k way off is = sym (if-false ((eqb e d) && same_lock k l) (Some m) (held_in hs e k) off) ∙ is
after_less Frees d l n hs e k way off is =
    sym (freed d l hs e k ∙ if-false ((eqb e d) && same_lock k l) None (held_in hs e k) off) ∙ is

-- and so after a call has begun in another context
moved_less : (n l : ℕ) (hs : List Hold) (e : ℕ) (k : LockName) (way : Manner) → e ≢ n
    → held_in (moved_to n (lock_name l) hs) e k ≡ Some way → held_in hs e k ≡ Some way
moved_less n l hs e k way ne is = elim (lock_cases k (lock_name l)) [
  | inl same ↦
      absurd (none_some (sym (moved-away n (lock_name l) hs e ne)
      ∙ subst (λ (j : LockName). held_in (moved_to n (lock_name l) hs) e j ≡ Some way) same is))
  | inr other ↦ sym (moved-else n (lock_name l) k hs e other) ∙ is
]

begun_less : (v : Verb) (n l : ℕ) (hs : List Hold) (e : ℕ) (k : LockName) (way : Manner) → e ≢ n
    → held_in (holds_begun v n l hs) e k ≡ Some way → held_in hs e k ≡ Some way
begun_less Unlock n l hs e k way ne is = moved_less n l hs e k way ne is
begun_less RUnlock n l hs e k way ne is = moved_less n l hs e k way ne is
begun_less WUnlock n l hs e k way ne is = moved_less n l hs e k way ne is
begun_less _ n l hs e k way ne is = is

begun_same : (v : Verb) (n l : ℕ) (hs : List Hold) → waits_for v ≡ true → holds_begun v n l hs ≡ hs
begun_same Lock n l hs h = refl
begun_same Read n l hs h = refl
begun_same Write n l hs h = refl
begun_same _ n l hs h = cc h

-- frames

called : (rs : List Running) (d : ℕ) (f : Frame) → frame_in rs d ≡ Some f → waits_in rs f.lock.index ≡ true
called [] d f is = absurd (none_some is)
called (r ∷ rs) d f is = elim (cases_Bool (eqb d r.frame.ctx)) [
  | inl e ↦
      let q : r.frame ≡ f = some_is (sym (if-true (eqb d r.frame.ctx) (Some r.frame) (frame_in rs d) e) ∙ is) in
      if-true (eqb r.frame.lock.index f.lock.index) true (waits_in rs f.lock.index)
      (eq-eqb r.frame.lock.index f.lock.index (ap (λ (y : Frame). y.lock.index) q))
  | inr e ↦
      more (eqb r.frame.lock.index f.lock.index)
      (called rs d f (sym (if-false (eqb d r.frame.ctx) (Some r.frame) (frame_in rs d) e) ∙ is))
]
  where
    more : (b : Bool) → waits_in rs f.lock.index ≡ true → (if b then true else waits_in rs f.lock.index) ≡ true
    more true h = refl
    more false h = h

-- a call that begins and may wait is one of a verb that waits
first_waits : (mode : Mode) (n : ℕ) (v : Verb) (l : ℕ) → may_wait (begun mode n v l) ≡ true → waits_for v ≡ true
first_waits mode n Lock l h = refl
first_waits mode n Read l h = refl
first_waits mode n Write l h = refl
first_waits mode n Try l h = cc h
first_waits mode n TryRead l h = cc h
first_waits mode n TryWrite l h = cc h
first_waits Virt n Unlock l h = cc h
first_waits Native n Unlock l h = cc h
first_waits Cna n Unlock l h = cc h
first_waits Pv n Unlock l h = cc h
first_waits mode n RUnlock l h = cc h
first_waits mode n WUnlock l h = cc h

-- the frame of a context is that of the newest call, or of an older one
top_or : (x : Running) (rs : List Running) (d : ℕ) (h : Frame) → frame_in (x ∷ rs) d ≡ Some h
    → ((h ≡ x.frame) × (d ≡ x.frame.ctx)) ⊎ (frame_in rs d ≡ Some h)
top_or x rs d h is = elim (cases_eq d x.frame.ctx) [
  | inl e ↦ inl (sym (at_top x rs d h e is), e)
  | inr ne ↦ inr (below_top x rs d h ne is)
]

-- an older one has a lower context
is_low : (rs : List Running) (d : ℕ) (h : Frame) → Stacked rs → frame_in rs d ≡ Some h → d < length rs
is_low rs d h stacked is = elim (cases_lt d (length rs)) [
  | inl lt ↦ lt
  | inr ge ↦ absurd (none_some (sym (frame_in-above rs d stacked ge) ∙ is))
]

-- the calls below and the holds of this call, or of one in this context
abbrev IsBelow : (ℕ → ℕ) → Calls → ℕ → ℕ → Type 0
IsBelow rank c l d = AreCallsBelow rank l d c.frames × AreHoldsBelow rank l d c.holds

-- a call begins
module _ (rank : ℕ → ℕ) (mode : Mode) (c : Calls) (v : Verb) (l : ℕ) (stacked : Stacked c.frames)
    (above : waits_for v ≡ true → RanksAbove rank l c) (order : IsInOrder rank c) where
  abbrev size : ℕ
  size = length c.frames

  abbrev first : Frame
  first = begun mode size v l

  abbrev now : Calls
  now = begin mode c v l

  first_below : may_wait first ≡ true → IsBelow rank now l size
  first_below wait =
      let waits = first_waits mode size v l wait in
      let a = above waits in (
        λ e g lt at. elim (top_or (running v first []) c.frames e g at) [
          | inl z ↦ absurd (let y = z.1 in omega (arith, lt, y))
          | inr is ↦ a.1 g.lock.index (called c.frames e g is)
        ],
        λ e k way le has.
            a.0 k (holds_it c.holds e k way
            (subst (λ (hs : List Hold). held_in hs e (lock_name k) ≡ Some way) (begun_same v size l c.holds waits) has)),
      )

  older_below : (d : ℕ) (h : Frame) → frame_in c.frames d ≡ Some h → may_wait h ≡ true → IsBelow rank now h.lock.index d
  older_below d h is wait =
      let low = is_low c.frames d h stacked is in
      let b = order d h is wait in (
        λ e g lt at. elim (top_or (running v first []) c.frames e g at) [
          | inl z ↦ absurd (let y = z.1 in omega (arith, lt, y, low))
          | inr at' ↦ b.0 e g lt at'
        ],
        λ e k way le has. b.1 e k way le (begun_less v size l c.holds e (lock_name k) way (λ q. omega (arith, q, le, low)) has),
      )

  begun_in_order : IsInOrder rank now
  begun_in_order d h at wait = elim (top_or (running v first []) c.frames d h at) [
    | inr is ↦ older_below d h is wait
    | inl z ↦
        subst (λ (j : ℕ). IsBelow rank now h.lock.index j) (sym z.1)
        (subst (λ (y : Frame). IsBelow rank now y.lock.index size) (sym z.0)
        (first_below (subst (λ (y : Frame). may_wait y ≡ true) z.0 wait)))
  ]

pub begins_keep_order : BeginsKeepOrder
begins_keep_order rank mode c v l stacked above order = begun_in_order rank mode c v l stacked above order

held_index : (t : Target) (f : Frame) → (held_lock t f).index ≡ f.lock.index
held_index RwWord f = refl
held_index _ f = refl

-- the newest call makes its row, at d, and takes this course
module _ (rank : ℕ → ℕ) (c : Calls) (r : Running) (rs : List Running) (is : c.frames ≡ r ∷ rs) (stacked : Stacked c.frames)
    (order : IsInOrder rank c) (d : Pc) (place : r.frame.place ≡ Some d) (t : List Mark) (o : Course) where
  abbrev f : Frame
  f = r.frame

  abbrev g : Frame
  g = led f o.leads

  abbrev to : Calls
  to = after r.verb f t rs c (target d f) o

  stands : Stacked (r ∷ rs)
  stands = subst Stacked is stacked

  -- an older call is as it was
  older : (e : ℕ) (h : Frame) → frame_in rs e ≡ Some h → (e < f.ctx) × (frame_in c.frames e ≡ Some h)
  older e h at =
      let low = is_low rs e h stands.1 at in
      let ctx = stands.0 in
      let under : e < f.ctx = omega (arith, low, ctx) in (
        under,
        ap (λ (xs : List Running). frame_in xs e) is
            ∙ (if-false (eqb e f.ctx) (Some f) (frame_in rs e) (ne_eqb e f.ctx (λ q. omega (arith, q, under))) ∙ at),
      )

  frames : (e : ℕ) (h : Frame) → frame_in to.frames e ≡ Some h
      → ((h ≡ g) × (e ≡ f.ctx)) ⊎ (frame_in rs e ≡ Some h)
  frames e h at = by g.place at
    where
      by : (q : Option Pc) → frame_in (frames_after r.verb g t rs q) e ≡ Some h
          → ((h ≡ g) × (e ≡ f.ctx)) ⊎ (frame_in rs e ≡ Some h)
      by None z = inr z
      by (Some q) z = elim (top_or (running r.verb g t) rs e h z) [
        | inl y ↦ inl (y.0, y.1 ∙ led_ctx f o.leads)
        | inr y ↦ inr y
      ]

  below_older : (e : ℕ) (h : Frame) → frame_in rs e ≡ Some h → may_wait h ≡ true → IsBelow rank to h.lock.index e
  below_older e h at wait =
      let was = older e h at in
      let under = was.0 in
      let b = order e h was.1 wait in (
        λ x y lt z. elim (frames x y z) [
          | inl q ↦ absurd (let p = q.1 in omega (arith, p, lt, under))
          | inr q ↦ b.0 x y lt (older x y q).1
        ],
        λ x k way le has.
            b.1 x k way le (after_less (grip_of (target d f) o) f.ctx (held_lock (target d f) f) (c.taken + 1) c.holds x
            (lock_name k) way (aside x (same_lock (lock_name k) (held_lock (target d f) f)) (omega (arith, le, under))) has),
      )
    where
      aside : (x : ℕ) (b : Bool) → x < f.ctx → ((eqb x f.ctx) && b) ≡ false
      aside x b lt = ap (λ (a : Bool). a && b) (ne_eqb x f.ctx (λ q. omega (arith, q, lt)))

  -- after it the newest call does not have its lock, if it waits
  unheld_yet : AreFresh to.frames to.holds → may_wait g ≡ true → holds_in to.holds g.lock.index ≡ false
  unheld_yet fresh wait = by g.place refl fresh wait
    where
      by : (q : Option Pc) → g.place ≡ q → AreFresh (frames_after r.verb g t rs q) to.holds → may_wait_at g q ≡ true
          → holds_in to.holds g.lock.index ≡ false
      by None e fr w = cc w
      by (Some q) e fr w = (fr.0 (ap is_seeking e ∙ (and_parts (is_seeking (Some q)) (not (is_trying g q)) w).0)).0

  below_newest : may_wait_at f (Some d) ≡ true → holds_in to.holds g.lock.index ≡ false → IsBelow rank to g.lock.index f.ctx
  below_newest wait free =
      let here : frame_in c.frames f.ctx ≡ Some f = ap (λ (xs : List Running). frame_in xs f.ctx) is ∙ frame_in-top r rs in
      let b = order f.ctx f here (ap (may_wait_at f) place ∙ wait) in
      let index : g.lock.index ≡ f.lock.index = led_index f o.leads in (
        λ x y lt z. elim (frames x y z) [
          | inl q ↦ absurd (let p = q.1 in omega (arith, p, lt))
          | inr q ↦ subst (λ (n : ℕ). rank y.lock.index < rank n) (sym index) (b.0 x y lt (older x y q).1)
        ],
        λ x k way le has. elim (cases_eq k g.lock.index) [
          | inl same ↦
              absurd (none_some (sym (unheld to.holds x k (ap (holds_in to.holds) same ∙ free)) ∙ has))
          | inr ne ↦
              subst (λ (n : ℕ). rank k < rank n) (sym index)
              (b.1 x k way le (after_less (grip_of (target d f) o) f.ctx (held_lock (target d f) f) (c.taken + 1) c.holds x
              (lock_name k) way (aside k x (λ q. ne (q ∙ (held_index (target d f) f ∙ sym index)))) has))
        ],
      )
    where
      aside : (k x : ℕ) → (k ≢ (held_lock (target d f) f).index)
          → ((eqb x f.ctx) && same_lock (lock_name k) (held_lock (target d f) f)) ≡ false
      aside k x ne =
          and_false (eqb x f.ctx) (same_lock (lock_name k) (held_lock (target d f) f))
          (not-true (same_lock (lock_name k) (held_lock (target d f) f))
          (λ e. ne (ap (λ (n : LockName). n.index) (same_lock-true (lock_name k) (held_lock (target d f) f) e))))

  gone_in_order : (may_wait_at f (Some d) ≡ false → may_wait g ≡ false) → AreFresh to.frames to.holds → IsInOrder rank to
  gone_in_order still fresh e h at wait = elim (frames e h at) [
    | inr q ↦ below_older e h q wait
    | inl z ↦
        let w : may_wait g ≡ true = subst (λ (y : Frame). may_wait y ≡ true) z.0 wait in
        let was : may_wait_at f (Some d) ≡ true = (elim (cases_Bool (may_wait_at f (Some d))) [
          | inl q ↦ q
          | inr q ↦ absurd (let y = still q in cc (y, w))
        ]) in
        subst (λ (j : ℕ). IsBelow rank to h.lock.index j) (sym z.1)
        (subst (λ (y : Frame). IsBelow rank to y.lock.index f.ctx) (sym z.0) (below_newest was (unheld_yet fresh w)))
  ]

pub rows_keep_order : RowsKeepOrder
rows_keep_order rank t p c x stacked fresh order = by c.frames refl fresh
  where
    sees : Outlook
    sees = sight_of t p c.runs

    by : (fs : List Running) → c.frames ≡ fs → AreFresh (row_on t.mode p sees fs c x).frames (row_on t.mode p sees fs c x).holds
        → IsInOrder rank (row_on t.mode p sees fs c x)
    by [] is fr = order
    by (r ∷ rs) is fr = at r.frame.place refl fr
      where
        at : (q : Option Pc) → r.frame.place ≡ q
            → AreFresh (row_at t.mode p sees r rs c x q).frames (row_at t.mode p sees r rs c x q).holds
            → IsInOrder rank (row_at t.mode p sees r rs c x q)
        at None e fr = order
        at (Some d) e fr =
            gone_in_order rank c r rs is stacked order d e (r.trail ++ mark d x (read_at d sees) ∷ [])
            (course t.mode p sees d r.frame x) (quiet (setting t.mode p (sight_by sees x)) r.frame d (plain x)) fr

pub ranks_are_asked : RanksAreAsked
ranks_are_asked l c above = (above.holds, above.waits)
