-- The rows of a head that chooses its successor: each leaves it fewer rows, or leads it on in its turn, or is one
-- of a head that turns on the spot.
use Rattle.std.proofs.Common.{◌≡◌, ◌⊎◌, ◌<◌, ◌≤◌, ◌+◌, ℕ, arith, inl, inr, Option, Some, None, Bool}
use Rattle.std.proofs.Common.{true, false, refl, sym, ap, ◌∙◌, [], ◌∷◌, length, if◌then◌else◌}
use Rattle.std.proofs.Common.{is_some}
use Rattle.lk_progress.proofs.Names.{slice_get_within, Fields, NodeName, LockHistory, LockName}
use Rattle.lk_progress.proofs.Names.{Waiter, node_of, Effect, Goes, Leaves, Says, gone, looks}
use Rattle.lk_progress.proofs.Names.{target, Frame, Pc, C1, C2, C3, C4, C5, C6, C7, C8, C9, C10}
use Rattle.lk_progress.proofs.Names.{Why, Sight, after_tail, is_last, may_stay, search_first}
use Rattle.lk_progress.proofs.Names.{search_on, chooses, course_in, stored_in, IsThen}
use Rattle.lk_progress.proofs.Names.{IsSoundSpinWorld, led, sight_in, stores_next, stores_word}
use Rattle.lk_progress.proofs.Names.{World, IsBarred, choice_at, choice_if, goes, is_turn, left_at}
use Rattle.lk_progress.proofs.Names.{left_of, turn_at, turn_of}
use Rattle.lk_rows.specs.{Row.{Y, Second, T}, rows.Cna.after_none}
use Rattle.lk_law.proofs.cna.Knows.{skipped_is_queued, queue_is_distinct}
use Rattle.lk_progress.proofs.{Measure.none_left, Pigeon.list_few}
use Rattle.lk_progress.specs.Measure.{rows_left_if, choice_why, contexts, is_linked, look_at}
use Rattle.lk_progress.specs.Measure.{seek_at, swing_at, promotion_at, AreContexts}
use Rattle.lk_rows.specs.declared.parts.Why.TheVariants as why
use Rattle.lk_names.specs.declared.events.What.TheVariants as what

-- a head passes over fewer waiters than there are contexts
pub few_skipped : (m : World) (hs : LockName → LockHistory) (w : Waiter) (f : Frame) → IsSoundSpinWorld m hs → AreContexts m
    → m.frame w ≡ Some f → f.place ≡ Some C2 → f.k < contexts m
few_skipped m hs w f ok contexts live at =
    let q = skipped_is_queued m hs w f ok live at in
    let within = slice_get_within (hs f.lock).main f.k q.0 q.1 in
    let distinct = queue_is_distinct m hs f.lock ok in
    let few = list_few (length m.sockets) (hs f.lock).main
    (λ i u e. let z = distinct.0 i u e in contexts u z.0 z.1) distinct.1 in
    omega (arith, within, few)

module _ (m : World) (w : Waiter) (f : Frame) (inner : f.lock.wait ≡ true → IsThen f.then) where
  abbrev x : Fields
  x = m.word f.lock

  abbrev s : Sight
  s = sight_in m w f

  abbrev linked : Bool
  linked = is_linked m f

  abbrev last : Bool
  last = is_last f (m.word f.lock)

  -- what a row of the choice does to its frame, which is g behind it, and to the world, which is n after its store
  abbrev Fewer : Pc → Frame → Type 0
  Fewer c g = (left_of g ≤ left_at (Some c) f) × (choice_if g.place g < choice_at c f)

  abbrev Same : Pc → Frame → World → Bool → Type 0
  Same c g n goes = (is_turn c ≡ true) × (n ≡ m) × (goes ≡ true) × (left_of g ≡ left_at (Some c) f) × (choice_if g.place g ≡ choice_at c f)

  abbrev Chosen : Pc → Frame → World → Bool → Type 0
  Chosen c g n goes = Fewer c g
      ⊎ (Same c g n goes × (turn_of m (Some g) < turn_at m f c))
      ⊎ (Same c g n goes × IsBarred m f c × (turn_of m (Some g) ≡ turn_at m f c))

  abbrev OnNext : Pc → NodeName → Effect (Option NodeName) → Type 0
  OnNext c n o = Chosen c (led f o.leads) (stores_next m n o.stores) (goes o.leads)

  either_next : (c : Pc) (n : NodeName) (b : Bool) (o e : Effect (Option NodeName)) → OnNext c n o → OnNext c n e
      → OnNext c n (if b then o else e)
  either_next c n true o e h k = h
  either_next c n false o e h k = k

  look_is : (a b c d e g : Bool) → a ≡ b → c ≡ d → e ≡ g → look_at a c e ≡ look_at b d g
  look_is a b c d e g p q r = ap (λ (t : Bool). look_at t c e) p ∙ ap (λ (t : Bool). look_at b t e) q ∙ ap (look_at b d) r

  seek_is : (a b c d : Bool) → a ≡ b → c ≡ d → seek_at a c ≡ seek_at b d
  seek_is a b c d p q = ap (λ (t : Bool). seek_at t c) p ∙ ap (seek_at b) q

  swing_is : (a b c d : Bool) → a ≡ b → c ≡ d → swing_at a c ≡ swing_at b d
  swing_is a b c d p q = ap (λ (t : Bool). swing_at t c) p ∙ ap (swing_at b) q

  -- nobody is linked behind it
  first_none : (m.node (node_of f.me)).next ≡ None → (o : Option NodeName) → f.second ≡ o → OnNext C1 (node_of f.me) (after_none o)
  first_none e None q = inr (inr ((refl, refl, refl, refl, refl), (e, inl q), refl))
  first_none e (Some t) q = by last refl
    where
      by : (b : Bool) → last ≡ b → OnNext C1 (node_of f.me) (after_none (Some t))
      by true p =
          let a = look_is linked false last true (is_some f.second) true (ap is_some e) p (ap is_some q) in
          let b = seek_is linked false last true (ap is_some e) p in
          inr (inl ((refl, refl, refl, refl, refl), omega (arith, a, b)))
      by false p =
          let a = look_is linked false last false (is_some f.second) true (ap is_some e) p (ap is_some q) in
          let b = seek_is linked false last false (ap is_some e) p in
          inr (inr ((refl, refl, refl, refl, refl), (e, inr p), omega (arith, a, b)))

  first : (o : Option NodeName) → (m.node (node_of f.me)).next ≡ o → OnNext C1 (node_of f.me) (search_first s f.second o)
  first None e = first_none e f.second refl
  first (Some n) e =
      either_next C1 (node_of f.me) (may_stay s) _ _
      (either_next C1 (node_of f.me) (s.local n) _ _ (inl (omega arith, omega arith)) (inl (omega arith, omega arith)))
      (either_next C1 (node_of f.me) (is_some f.second) _ _ (inl (omega arith, omega arith)) (inl (omega arith, omega arith)))

  more : f.k < contexts m → (o : Option NodeName) → OnNext C2 (node_of f.b) (search_on s f o)
  more few None = either_next C2 (node_of f.b) (is_some f.second) _ _ (inl (omega arith, omega arith)) (inl (omega arith, omega arith))
  more few (Some n) =
      either_next C2 (node_of f.b) (s.local n) _ _
      (either_next C2 (node_of f.b) (is_some f.second) _ _ (inl (omega arith, omega arith)) (inl (omega arith, omega arith)))
      (inr (inl ((refl, refl, refl, refl, refl), omega (arith, few))))

  none_of : (o : Option NodeName) → is_some o ≡ false → o ≡ None
  none_of None e = refl
  none_of (Some n) e = cc e

  seeks : (t : Option NodeName) (y : Why) → f.why ≡ y → Chosen C3 (gone f (after_tail y) (T t ∷ [])) m true
  seeks t why.Append e = inl (omega arith, let z : choice_why f.why ≡ 6 = ap choice_why e in omega (arith, z))
  seeks t why.Flush e = inl (omega arith, let z : choice_why f.why ≡ 4 = ap choice_why e in omega (arith, z))
  seeks t why.Promotion e = by linked last refl refl
    where
      eight : ◌≡◌ {A = ℕ} 8 (choice_why f.why)
      eight = sym (ap choice_why e)

      seek : turn_at m f C3 ≡ seek_at linked last
      seek = ap (λ (y : Why). promotion_at y (seek_at linked last)) e

      by : (b d : Bool) → linked ≡ b → last ≡ d → Chosen C3 (gone f C10 (T t ∷ [])) m true
      by true d p q =
          let a = seek_is linked true last d p q in
          let b = swing_is linked true last d p q in
          let k = seek in
          inr (inl ((refl, refl, refl, refl, eight), omega (arith, a, b, k)))
      by false true p q =
          let a = seek_is linked false last true p q in
          let b = swing_is linked false last true p q in
          let k = seek in
          inr (inl ((refl, refl, refl, refl, eight), omega (arith, a, b, k)))
      by false false p q =
          let a = seek_is linked false last false p q in
          let b = swing_is linked false last false p q in
          let k = seek in
          inr (inr ((refl, refl, refl, refl, eight), (none_of (m.node (node_of f.me)).next p, q, e), omega (arith, a, b, k)))

  abbrev promotes : Effect Fields
  promotes = record {
    stores = Some (record x { tail = f.t });
    leads = Goes C7 (Y f.second ∷ Second None ∷ []);
    tells = Says (what.Promote f.lock);
    counts = [];
  }

  swings : (b d : Bool) → last ≡ b → linked ≡ d
      → Chosen C10 (led f (if b then promotes else looks C1).leads) (stores_word m f.lock (if b then promotes else looks C1).stores)
      (goes (if b then promotes else looks C1).leads)
  swings true d p q = inl (omega arith, omega arith)
  swings false true p q =
      let a = swing_is linked true last false q p in
      let b = look_is linked true last false (is_some f.second) (is_some f.second) q p refl in
      inr (inl ((refl, refl, refl, refl, refl), omega (arith, a, b)))
  swings false false p q =
      let a = swing_is linked false last false q p in
      let b = look_is linked false last false (is_some f.second) (is_some f.second) q p refl in
      inr (inr ((refl, refl, refl, refl, refl), (none_of (m.node (node_of f.me)).next q, p), omega (arith, a, b)))

  -- the head leaves
  leaves_le : left_of (led f Leaves) ≤ left_at (Some C8) f
  leaves_le = by f.lock.wait refl
    where
      by : (b : Bool) → f.lock.wait ≡ b
          → left_at (if b then f.then else None) (led f Leaves) ≤ 0 + (if b then rows_left_if f.then else 0)
      by false e = omega arith
      by true e = elim (inner e) [
        | inl q ↦ rw q (let z = none_left f.lock.wait in omega (arith, z))
        | inr q ↦ rw q (let z = none_left f.lock.wait in omega (arith, z))
      ]

  leaves_none : choice_if (led f Leaves).place (led f Leaves) ≡ 0
  leaves_none = by f.lock.wait refl
    where
      by : (b : Bool) → f.lock.wait ≡ b → choice_if (if b then f.then else None) (led f Leaves) ≡ 0
      by false e = refl
      by true e = elim (inner e) [ inl q ↦ rw q refl | inr q ↦ rw q refl ]

  abbrev Row : Pc → Type 0
  Row c = Chosen c (led f (course_in m w f c (target c f)).leads) (stored_in m w f c (target c f))
      (goes (course_in m w f c (target c f)).leads)

  pub chosen : (c : Pc) → chooses c ≡ true → (c ≡ C2 → f.k < contexts m) → Row c
  chosen C1 e few = first (m.node (node_of f.me)).next refl
  chosen C2 e few = more (few refl) (m.node (node_of f.b)).next
  chosen C3 e few = seeks (m.node (node_of f.second)).second_tail f.why refl
  chosen C4 e few = inl (omega arith, omega arith)
  chosen C5 e few = inl (omega arith, omega arith)
  chosen C6 e few = inl (omega arith, omega arith)
  chosen C7 e few = inl (omega arith, omega arith)
  chosen C8 e few = inl (leaves_le, let z = leaves_none in omega (arith, z))
  chosen C9 e few = inl (omega arith, omega arith)
  chosen C10 e few = swings last linked refl refl
  chosen _ e few = cc e
