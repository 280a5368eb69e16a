-- Who uses nodes, before and after a step; and what of links and of what fronts were told stays.
use Rattle.std.proofs.Common.{◌≡◌, ◌⊎◌, inl, inr, ℕ, List, [], ◌∷◌, ◌++◌, length, Option, Some}
use Rattle.std.proofs.Common.{None, Bool, true, false, eqb, eqb-true, ne_eqb, refl, sym, ap, ◌∙◌}
use Rattle.std.proofs.Common.{subst, arith, if◌then◌else◌, is_some}
use Rattle.lk_domain.proofs.Names.{cases_Bool, NodeName, LockHistory, LockName, Mode, Waiter}
use Rattle.lk_domain.proofs.Names.{is_node, node_of, Lead, Leaves, Yields, target, Frame, Pc, C1}
use Rattle.lk_domain.proofs.Names.{C2, C3, C7, Verb, Sight, search_on, if-false, if-true, halts}
use Rattle.lk_domain.proofs.Names.{Linked, Met, Named, course_in, enters, IsFree, looks_along, Uses}
use Rattle.lk_domain.proofs.Names.{IsSoundSpinWorld, led, sight_in, World, Calls, Mark, Running}
use Rattle.lk_domain.proofs.Names.{Stacked, acting, begin, begun, frame_in, frames_after, is_inner}
use Rattle.lk_domain.proofs.Names.{is_on, mark, plain, told, told_in, AreTold, waiter}
use Rattle.lk_rows.specs.Row.{Goes, Enters, Change, with_change, changed_all, Prev, Second, Y, Left}
use Rattle.lk_rows.specs.Row.{A, B, K, T, Reason, Tailed, HashedIs, TargetIs}
use Rattle.lk_rows.specs.declared.parts.Why.{Why}
use Rattle.lk_law.proofs.{common.Users.node_is_ones, running.Links.{linked_is_used, passed_is_used}}
use Rattle.lk_law.specs.Nodes.{will_link}
use Rattle.lk_domain.proofs.Stacks.{frame_in-above}
use Rattle.lk_domain.specs.{Calls.{told_by, told_from, mark_of}, Runs.AreMarked}
use Rattle.lk_rows.specs.declared.parts.Why.TheVariants as why

some_is : {A : Type 0} {a b : A} → Some a ≡ Some b → a ≡ b
some_is {A} {a} {b} e = ap (λ (o : Option A). or_a o) e
  where
    or_a : Option A → A
    or_a None = a
    or_a (Some x) = x

none_some : {A : Type 0} {a : A} → None ≡ Some a → ⊥
none_some e = cc e

-- a frame keeps its node, but where it enters the slow path or leaves it

changed_me : (f : Frame) (c : Change) → (with_change f c).me ≡ f.me
changed_me f (Prev n) = refl
changed_me f (Second n) = refl
changed_me f (Y n) = refl
changed_me f (Left n) = refl
changed_me f (A n) = refl
changed_me f (B n) = refl
changed_me f (K n) = refl
changed_me f (T n) = refl
changed_me f (Reason n) = refl
changed_me f (Tailed b) = refl
changed_me f (HashedIs b) = refl
changed_me f (TargetIs n) = refl

all_me : (f : Frame) (cs : List Change) → (changed_all f cs).me ≡ f.me
all_me f [] = refl
all_me f (c ∷ cs) = all_me (with_change f c) cs ∙ changed_me f c

pub bare_me : (f : Frame) (lead : Lead) (b : NodeName) → enters lead ≡ false → is_node (led f lead).me b ≡ true
    → is_node f.me b ≡ true
bare_me f (Goes c cs) b h is = ap (λ o. is_node o b) (sym (all_me f cs)) ∙ is
bare_me f (Enters me c) b h is = cc h
bare_me f Leaves b h is = let z : false ≡ true = is in cc z
bare_me f (Yields c cs) b h is = ap (λ o. is_node o b) (sym (all_me f cs)) ∙ is
bare_me f _ b h is = is

-- the calls of a processor

-- one that begins has no node, and was told nothing
pub acting_frame : (mode : Mode) (c : Calls) (v : Verb) (l d : ℕ) (f : Frame) (b : NodeName)
    → frame_in (acting mode c v l).frames d ≡ Some f → is_node f.me b ≡ true → frame_in c.frames d ≡ Some f
acting_frame mode c v l d f b at is = by (is_on c.frames v l) at
  where
    by : (o : Bool) → frame_in (if o then c else begin mode c v l).frames d ≡ Some f → frame_in c.frames d ≡ Some f
    by true e = e
    by false e =
        elim (cases_Bool (eqb d (begun mode (length c.frames) v l).ctx)) [
          | inl h ↦
              let same : begun mode (length c.frames) v l ≡ f =
              some_is (sym (if-true (eqb d (begun mode (length c.frames) v l).ctx) (Some (begun mode (length c.frames) v l)) (frame_in c.frames d) h) ∙ e) in
              let z : false ≡ true = ap (λ (g : Frame). is_node g.me b) same ∙ is in absurd (cc z)
          | inr h ↦ sym (if-false (eqb d (begun mode (length c.frames) v l).ctx) (Some (begun mode (length c.frames) v l)) (frame_in c.frames d) h) ∙ e
        ]

pub acting_told : (mode : Mode) (c : Calls) (v : Verb) (l d : ℕ) (f : Frame) (a : NodeName) (b : Bool)
    → frame_in (acting mode c v l).frames d ≡ Some f → told_in (acting mode c v l).frames d ≡ Some (a, b)
    → (frame_in c.frames d ≡ Some f) × (told_in c.frames d ≡ Some (a, b))
acting_told mode c v l d f a b at knows = by (is_on c.frames v l) at knows
  where
    by : (o : Bool) → frame_in (if o then c else begin mode c v l).frames d ≡ Some f
        → told_in (if o then c else begin mode c v l).frames d ≡ Some (a, b)
        → (frame_in c.frames d ≡ Some f) × (told_in c.frames d ≡ Some (a, b))
    by true e t = (e, t)
    by false e t =
        elim (cases_Bool (eqb d (begun mode (length c.frames) v l).ctx)) [
          | inl h ↦ absurd (none_some (sym (if-true (eqb d (begun mode (length c.frames) v l).ctx) None (told_in c.frames d) h) ∙ t))
          | inr h ↦ (
            sym (if-false (eqb d (begun mode (length c.frames) v l).ctx) (Some (begun mode (length c.frames) v l)) (frame_in c.frames d) h) ∙ e,
            sym (if-false (eqb d (begun mode (length c.frames) v l).ctx) None (told_in c.frames d) h) ∙ t,
          )
        ]

-- after a row, a call is the newest, as it goes on, or one below it
pub after_cases : (v : Verb) (g : Frame) (t : List Mark) (rs : List Running) (q : Option Pc) (d : ℕ) (f : Frame)
    → frame_in (frames_after v g t rs q) d ≡ Some f
    → ((d ≡ g.ctx) × (f ≡ g) × (told_in (frames_after v g t rs q) d ≡ told t))
    ⊎ ((frame_in rs d ≡ Some f) × (told_in (frames_after v g t rs q) d ≡ told_in rs d))
after_cases v g t rs None d f e = inr (e, refl)
after_cases v g t rs (Some c) d f e =
    elim (cases_Bool (eqb d g.ctx)) [
      | inl h ↦ inl (
        eqb-true d g.ctx h,
        some_is (sym e ∙ if-true (eqb d g.ctx) (Some g) (frame_in rs d) h),
        if-true (eqb d g.ctx) (told t) (told_in rs d) h,
      )
      | inr h ↦ inr (
        sym (if-false (eqb d g.ctx) (Some g) (frame_in rs d) h) ∙ e,
        if-false (eqb d g.ctx) (told t) (told_in rs d) h,
      )
    ]

-- those below it are there as before it
pub below_it : (r : Running) (rs : List Running) (d : ℕ) (f : Frame) → Stacked (r ∷ rs) → frame_in rs d ≡ Some f
    → (frame_in (r ∷ rs) d ≡ Some f) × (told_in (r ∷ rs) d ≡ told_in rs d)
below_it r rs d f s at =
    let off : eqb d r.frame.ctx ≡ false =
    ne_eqb d r.frame.ctx (λ e. none_some (sym (frame_in-above rs d s.1 (omega (arith, e, s.0))) ∙ at)) in (
      if-false (eqb d r.frame.ctx) (Some r.frame) (frame_in rs d) off ∙ at,
      if-false (eqb d r.frame.ctx) (told r.trail) (told_in rs d) off,
    )

-- what a trail has told, with one row more
told_more : (o : Rattle.lk_domain.specs.Calls.Told) (ks : List Mark) (k : Mark)
    → told_from o (ks ++ k ∷ []) ≡ told_by (told_from o ks) k.row k.met
told_more o [] k = refl
told_more o (j ∷ ks) k = told_more (told_by o j.row j.met) ks k

pub told_on : (ks : List Mark) (k : Mark) → told (ks ++ k ∷ []) ≡ told_by (told ks) k.row k.met
told_on ks k = told_more None ks k

-- who uses a node after a step used it before it, or nobody did, and its link is none
abbrev pub Grows : World → World → Type 0
Grows m n = (u : Waiter) (b : NodeName) → Uses n u b → Uses m u b ⊎ (IsFree m b × ((n.node b).next ≡ None))

-- the mark of a link says of each call that uses the node which is named what it is to say
pub record AreRight (m : World) (marks : NodeName → Bool) : Type 0 where
  pub says : halts m.mode ≡ false
      → (a b : NodeName) (u w : Waiter)
      → Uses m u a
      → (m.node a).next ≡ Some b
      → Uses m w b
      → marks a ≡ is_inner w.ctx
  pub bare : halts m.mode ≡ true → (a : NodeName) → marks a ≡ false

-- there is one such call
pub right_marks : (m : World) (hs : LockName → LockHistory) (marks : NodeName → Bool) → IsSoundSpinWorld m hs
    → AreMarked m marks → AreRight m marks
right_marks m hs marks ok are =
    record {
      says = λ awake a b u w uses next there.
          let x = are.says awake a b u uses next in
          x.2 ∙ ap (λ (z : Waiter). is_inner z.ctx) (node_is_ones m hs x.0 w b ok x.1 there).0;
      bare = are.bare;
    }

pub marks_right : (m : World) (hs : LockName → LockHistory) (marks : NodeName → Bool) → IsSoundSpinWorld m hs
    → AreRight m marks → AreMarked m marks
marks_right m hs marks ok are =
    record {
      says = λ awake a b u uses next.
          let w = linked_is_used m hs u a b ok awake uses next in (w.0, w.1, are.says awake a b u w.0 uses next w.1);
      bare = are.bare;
    }

-- the links of the nodes that were used before it, with these marks: none names a node that nobody
-- used, and the marks say what they are to say
pub record KeepsMarks (m n : World) (marks : NodeName → Bool) : Type 0 where
  pub used : halts m.mode ≡ false
      → (a b : NodeName) (u : Waiter)
      → Uses m u a
      → (n.node a).next ≡ Some b
      → IsFree m b
      → ⊥
  pub says : halts m.mode ≡ false
      → (a b : NodeName) (u w : Waiter)
      → Uses m u a
      → (n.node a).next ≡ Some b
      → Uses m w b
      → marks a ≡ is_inner w.ctx
  pub bare : halts m.mode ≡ true → (a : NodeName) → marks a ≡ false

pub kept_marks : (m n : World) (hs : LockName → LockHistory) (marks : NodeName → Bool) → IsSoundSpinWorld m hs
    → AreRight m marks
    → ((a b : NodeName) → (n.node a).next ≡ Some b → (m.node a).next ≡ Some b) → KeepsMarks m n marks
kept_marks m n hs marks ok are links =
    record {
      used = λ awake a b u uses next free.
          let w = linked_is_used m hs u a b ok awake uses (links a b next) in free w.0 w.1;
      says = λ awake a b u w uses next there. are.says awake a b u w uses (links a b next) there;
      bare = are.bare;
    }

pub marked_after : (m n : World) (marks : NodeName → Bool) → n.mode ≡ m.mode → Grows m n → KeepsMarks m n marks
    → AreRight n marks
marked_after m n marks mode grows keeps =
    record {
      says = λ awake a b u w uses next there.
          let awake' : halts m.mode ≡ false = ap halts (sym mode) ∙ awake in
          elim (grows u a uses) [
            | inl was ↦ elim (grows w b there) [
              | inl here ↦ keeps.says awake' a b u w was next here
              | inr free ↦ absurd (keeps.used awake' a b u was next free.0)
            ]
            | inr free ↦ absurd (none_some (sym free.1 ∙ next))
          ];
      bare = λ on. keeps.bare (ap halts (sym mode) ∙ on);
    }

-- what the fronts of a processor were told
pub told_after : (m n : World) (hs : LockName → LockHistory) → IsSoundSpinWorld m hs → Grows m n → (p : ℕ)
    → (rs : List Running) → ((d : ℕ) (f : Frame) → frame_in rs d ≡ Some f → m.frame (waiter p d) ≡ Some f)
    → AreTold m rs → AreTold n rs
told_after m n hs ok grows p rs live old d f c a b w at place on first knows uses =
    elim (grows w a uses) [
      | inl was ↦ old d f c a b w at place on first knows was
      | inr free ↦
          let u = passed_is_used m hs (waiter p d) f c ok (live d f at) place on in
          absurd (free.0 u.0 (subst (Uses m u.0) (ap node_of first) u.1))
    ]

-- a look along the links keeps the first that was met
keeps_first : (s : Sight) (f : Frame) (x : Option NodeName) → (led f (search_on s f x).leads).a ≡ f.a
keeps_first s f None = by (is_some f.second)
  where
    by : (b : Bool) → (led f (if b then Rattle.lk_rows.specs.Row.learns_all {A = Option NodeName} C3 (K 0 ∷ Reason why.Flush ∷ [])
        else Rattle.lk_rows.specs.Row.learns_all C7 (K 0 ∷ Y f.a ∷ [])).leads).a ≡ f.a
    by true = refl
    by false = refl
keeps_first s f (Some n) =
    elim (cases_Bool (s.local n)) [
      | inl e ↦ elim (cases_Bool (is_some f.second)) [ inl d ↦ rw (e, d) refl | inr d ↦ rw (e, d) refl ]
      | inr e ↦ rw e refl
    ]

-- where the last of the second queue is known it will be linked to the first that was met
links_on : (y : Why) → will_link (Rattle.lk_rows.specs.rows.Cna.after_tail y) y ≡ true → will_link C3 y ≡ true
links_on why.Append h = refl
links_on why.Flush h = refl
links_on why.Promotion h = cc h

-- the mark of a link that a front has met, which looks along the links, says of the call that uses the
-- node what it is to say
abbrev pub IsTrue : World → Pc → Met → Type 0
IsTrue m c x = looks_along c ≡ true → (a : NodeName) → plain x ≡ Named (Some a)
    → (IsFree m a → ⊥) × ((w : Waiter) → Uses m w a → mark_of x ≡ is_inner w.ctx)

-- what the newest call was told, after its row at c
module _ (m n : World) (hs : LockName → LockHistory) (ok : IsSoundSpinWorld m hs) (grows : Grows m n) (w : Waiter)
    (f : Frame) (live : m.frame w ≡ Some f) (t : List Mark) (x : Met) (r : ℕ)
    (was : (c : Pc) (a : NodeName) (b : Bool) (u : Waiter) → f.place ≡ Some c → will_link c f.why ≡ true → f.a ≡ Some a
    → told t ≡ Some (a, b) → Uses m u a → b ≡ is_inner u.ctx) where
  -- of one that will link it
  linking : (c : Pc) (a : NodeName) (b : Bool) (u : Waiter) → f.place ≡ Some c → will_link c f.why ≡ true → f.a ≡ Some a
      → told t ≡ Some (a, b) → Uses n u a → b ≡ is_inner u.ctx
  linking c a b u place on first knows uses =
      elim (grows u a uses) [
        | inl before ↦ was c a b u place on first knows before
        | inr free ↦
            let v = passed_is_used m hs w f c ok live place on in
            absurd (free.0 v.0 (subst (Uses m v.0) (ap node_of first) v.1))
      ]

  pub newest_told : (c : Pc) → f.place ≡ Some c → IsTrue m c x → (d : Pc) (a : NodeName) (b : Bool) (u : Waiter)
      → (led f (course_in m w f c (target c f)).leads).place ≡ Some d
      → will_link d (led f (course_in m w f c (target c f)).leads).why ≡ true
      → (led f (course_in m w f c (target c f)).leads).a ≡ Some a
      → told (t ++ mark c x r ∷ []) ≡ Some (a, b) → Uses n u a → b ≡ is_inner u.ctx
  newest_told c place true_ d a b u to on first knows uses =
      by c place true_ to on first (sym (told_on t (mark c x r)) ∙ knows)
    where
      met : (y : Met) → told_by (told t) C1 y ≡ Some (a, b) → y ≡ Linked (Some a) b
      met (Linked (Some e) i) h =
          let q : ◌≡◌ {A = NodeName × Bool} (e, i) (a, b) = some_is h in
          λ j. Linked (Some (ap (λ (z : NodeName × Bool). z.0) q j)) (ap (λ (z : NodeName × Bool). z.1) q j)
      met _ h = cc h

      by : (c : Pc) → f.place ≡ Some c → IsTrue m c x
          → (led f (course_in m w f c (target c f)).leads).place ≡ Some d
          → will_link d (led f (course_in m w f c (target c f)).leads).why ≡ true
          → (led f (course_in m w f c (target c f)).leads).a ≡ Some a
          → told_by (told t) c x ≡ Some (a, b) → b ≡ is_inner u.ctx
      by C1 place true_ to on first knows =
          let is = true_ refl a (ap plain (met x knows)) in
          elim (grows u a uses) [
            | inl before ↦ ap mark_of (sym (met x knows)) ∙ is.1 u before
            | inr free ↦ absurd (is.0 free.0)
          ]
      by C2 place true_ to on first knows =
          linking C2 a b u place refl
          (sym (keeps_first (sight_in m w f) f (m.node (node_of f.b)).next) ∙ first) knows uses
      by C3 place true_ to on first knows =
          linking C3 a b u place
          (links_on f.why (ap (λ (z : Pc). will_link z f.why) (some_is to) ∙ on)) first knows uses
      by _ place true_ to on first knows = cc knows
