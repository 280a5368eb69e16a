-- The hash has room for one entry more: no two entries have one node, since a node is used by one
-- waiter, which acts on one lock.
use Rattle.std.proofs.Common.{◌≡◌, ◌≢◌, ℕ, zero, suc, ◌+◌, ◌*◌, ◌<◌, ◌≤◌, Option, Some, None, Bool}
use Rattle.std.proofs.Common.{true, false, eqb, List, [], ◌∷◌, map, length, get_or, slice_get}
use Rattle.std.proofs.Common.{arith, ap, refl, sym, ◌∙◌, subst, if◌then◌else◌}
use Rattle.std.proofs.{lemmas.Bool.eqb-true, lemmas.List.{get_or-map, length-map}}
use Rattle.std.proofs.{lemmas.List.Elements.All-map, lemmas.List.Folds.Any-from_list_any}
use Rattle.std.proofs.lemmas.Map.Keys.{IsDistinct-from_apart}
use Rattle.std.proofs.lemmas.Map.Steps.{length-le_from_distinct_below}
use Rattle.std.specs.List.{IsDistinct, All}
use Rattle.lk_core.proofs.Names.{ne_eqb, none-some, same_Some, slice_get-get_or, NodeName}
use Rattle.lk_core.proofs.Names.{LockHistory, same_lock, LockName, Waiter, Machine, Frame, if-false}
use Rattle.lk_core.proofs.Names.{if-true, same_lock-else, same_lock-self, halts, IsOwnNode, Phase}
use Rattle.lk_core.proofs.Names.{queues, Idle, phase_of, phase_on, Uses, IsEnteredOnce, ShowsAll}
use Rattle.lk_core.proofs.Names.{world, spin_part}
use Rattle.lk_rows.specs.Machine.{frame_at, entry_at, entry_in}
use Rattle.lk_law.proofs.{common.Families.lists_main, common.Knows.entry_is_used}
use Rattle.lk_law.proofs.{common.Sames.same_lock-true, common.Users.node_is_ones}
use Rattle.lk_core.proofs.{Access.frame_within, Entries.Entry}

-- the number of a node
abbrev number : NodeName → ℕ
number n = n.cpu * 4 + n.index

-- two nodes with one number are one
number_one : (a b : NodeName) → a.index < 4 → b.index < 4 → number a ≡ number b → a ≡ b
number_one a b p q e =
    let c : a.cpu ≡ b.cpu = omega arith in
    let x : a.index ≡ b.index = omega arith in
    (λ i. record { cpu = c i; index = x i })

-- of so many processors there are so many nodes
nodes_few : (count : ℕ) (ns : List NodeName)
    → ((i : ℕ) (n : NodeName) → slice_get ns i ≡ Some n → (n.cpu < count) × (n.index < 4))
    → ((i j : ℕ) (n : NodeName) → slice_get ns i ≡ Some n → slice_get ns j ≡ Some n → i ≡ j)
    → length ns ≤ 4 * count
nodes_few count ns low once =
    let few : length (map number ns) ≤ 4 * count =
    length-le_from_distinct_below (map number ns) (4 * count) distinct
    (λ q member.
    let found : (k : ℕ) × (n : ℕ) × (k < length (map number ns)) × (get_or (map number ns) k n
    ≡ n) × (eqb q n ≡ true) = Any-from_list_any (eqb q) (map number ns) member in
    let small : All (λ n. n < 4 * count) (map number ns) =
    All-map (λ n. n < 4 * count) number ns
    (λ k d lt. let x = within k d lt in omega (arith, x.0, x.1)) in
    let below : get_or (map number ns) found.0 found.1 < 4 * count =
    small found.0 found.1 found.2 in
    omega (arith, found.3, eqb-true q found.1 found.4)) in
    omega (arith, length-map ns number, few)
  where
    within : (k : ℕ) (d : NodeName) → k < length ns
        → ((get_or ns k d).cpu < count) × ((get_or ns k d).index < 4)
    within k d lt = low k (get_or ns k d) (slice_get-get_or ns k d lt)

    distinct : IsDistinct eqb (map number ns)
    distinct =
        IsDistinct-from_apart eqb (map number ns)
        (λ i j d near far.
        let o : NodeName = record { cpu = 0; index = 0 } in
        let late : j < length ns = omega (arith, length-map ns number) in
        let early : i < length ns = omega arith in
        let first = get_or-map number ns i o d early in
        let later = get_or-map number ns j o d late in
        rw (first, later) (ne_eqb _ _ (λ same.
        let a : slice_get ns i ≡ Some (get_or ns i o) = slice_get-get_or ns i o early in
        let b : slice_get ns j ≡ Some (get_or ns j o) = slice_get-get_or ns j o late in
        let one =
        number_one (get_or ns i o) (get_or ns j o) (within i o early).1 (within j o late).1 same in
        let z : i ≡ j = once i j (get_or ns i o) a (b ∙ ap Some (sym one)) in
        absurd (omega (arith, near, z)))))

-- what stands in the list of entries is entered
entered_at : (es : List Entry) → IsEnteredOnce es → (i : ℕ) (e : Entry) → slice_get es i ≡ Some e
    → entry_in e.0 es ≡ Some e.1
entered_at [] once i e at = absurd (none-some e at)
entered_at (x ∷ es) once zero e at =
    let same : x ≡ e = same_Some x e at in
    subst (λ (d : Entry). entry_in d.0 (x ∷ es) ≡ Some d.1) same
    (if-true (same_lock x.0 x.0) (Some x.1) (entry_in x.0 es) (same_lock-self x.0))
entered_at (x ∷ es) once (suc i) e at =
    let later : entry_in e.0 es ≡ Some e.1 = entered_at es once.1 i e at in
    let other : x.0 ≢ e.0 =
    (λ q. none-some e.1 (sym once.0 ∙ ap (λ (l : LockName). entry_in l es) q ∙ later)) in
    if-false (same_lock x.0 e.0) (Some x.1) (entry_in e.0 es) (same_lock-else x.0 e.0 other) ∙ later

-- each lock at one place
once_at : (es : List Entry) → IsEnteredOnce es → (i j : ℕ) (d e : Entry) → slice_get es i ≡ Some d
    → slice_get es j ≡ Some e → d.0 ≡ e.0 → i ≡ j
once_at [] once i j d e at bt same = absurd (none-some d at)
once_at (x ∷ es) once zero zero d e at bt same = refl
once_at (x ∷ es) once zero (suc j) d e at bt same =
    let q = ap (λ (y : Entry). y.0) (same_Some x d at) ∙ same in
    absurd (none-some e.1 (sym once.0 ∙ ap (λ (l : LockName). entry_in l es) q
    ∙ entered_at es once.1 j e bt))
once_at (x ∷ es) once (suc i) zero d e at bt same =
    let q = ap (λ (y : Entry). y.0) (same_Some x e bt) ∙ sym same in
    absurd (none-some d.1 (sym once.0 ∙ ap (λ (l : LockName). entry_in l es) q
    ∙ entered_at es once.1 i d at))
once_at (x ∷ es) once (suc i) (suc j) d e at bt same = ap suc (once_at es once.1 i j d e at bt same)

abbrev nodes_of : List Entry → List NodeName
nodes_of es = map (λ e. e.1) es

-- the entry of a node in the list of nodes
entry_of : (es : List Entry) (i : ℕ) (n : NodeName) → slice_get (nodes_of es) i ≡ Some n
    → (e : Entry) × (slice_get es i ≡ Some e) × (e.1 ≡ n)
entry_of [] i n at = absurd (none-some n at)
entry_of (x ∷ es) zero n at = (x, refl, same_Some x.1 n at)
entry_of (x ∷ es) (suc i) n at = entry_of es i n at

module _ (m : Machine) (hs : LockName → LockHistory) (shows : ShowsAll m hs)
    (on : halts m.setup.mode ≡ true) where
  abbrev spin_hs : LockName → LockHistory
  spin_hs = spin_part (world m).kind hs

  -- the front of a lock acts on it
  pub front_acts : (l : LockName) (u : Waiter) (f : Frame) → frame_at m u ≡ Some f
      → slice_get (spin_hs l).main 0 ≡ Some u → f.lock ≡ l
  front_acts l u f live front =
      let there : queues (phase_on l (Some f)) ≡ true =
      sym (ap (λ (o : Option Frame). queues (phase_on l o)) live)
      ∙ lists_main (shows.world.spins.agrees.locks l).lists 0 u front in
      same_lock-true f.lock l (acts (same_lock f.lock l) (phase_of f) there)
    where
      acts : (b : Bool) (r : Phase) → queues (if b then r else Idle) ≡ true → b ≡ true
      acts true r h = refl
      acts false r h = cc

  -- the waiter that uses the node of an entry, with its frame, which acts on the lock
  record User (l : LockName) (n : NodeName) : Type 0 where
    pub waiter : Waiter
    pub frame : Frame
    pub live : frame_at m waiter ≡ Some frame
    pub uses : Uses (world m) waiter n
    pub own : IsOwnNode waiter n
    pub acts : frame.lock ≡ l

  -- a node has one user, so two locks with one node are one
  users_meet : (k l : LockName) (n : NodeName) → User k n → User l n → k ≡ l
  users_meet k l n a b =
      let same =
      (node_is_ones (world m) spin_hs a.waiter b.waiter n shows.world.spins a.uses b.uses).0 in
      let frames : a.frame ≡ b.frame =
      same_Some a.frame b.frame (sym a.live ∙ ap (frame_at m) same ∙ b.live) in
      sym a.acts ∙ ap (λ (f : Frame). f.lock) frames ∙ b.acts

  user_within : (l : LockName) (n : NodeName) → User l n → (n.cpu < length m.cpus) × (n.index < 4)
  user_within l n a = let there = frame_within m a.waiter a.frame a.live in
      (subst (λ (i : ℕ). i < length m.cpus) (sym a.own.cpu) there, a.own.index)

  entry_user : (l : LockName) (n : NodeName) → entry_at m l ≡ Some n → User l n
  entry_user l n e =
      let u = entry_is_used (world m) spin_hs l n shows.world.spins on e in
      record {
        waiter = u.0;
        frame = u.1.0;
        live = u.1.1;
        uses = u.1;
        own = u.2;
        acts = front_acts l u.0 u.1.0 u.1.1 u.3;
      }

  listed_user : (i : ℕ) (e : Entry) → slice_get m.hash i ≡ Some e → User e.0 e.1
  unfolding entry_at
  listed_user i e at = entry_user e.0 e.1 (entered_at m.hash shows.whole.hash i e at)

  listed_now : (i : ℕ) (e : Entry) → slice_get m.hash i ≡ Some e → entry_at m e.0 ≡ Some e.1
  unfolding entry_at
  listed_now i e at = entered_at m.hash shows.whole.hash i e at

  -- a lock that is not entered has room, with the node of a waiter that acts on it
  pub hash_room : (l : LockName) (n : NodeName) (u : Waiter) (f : Frame) → frame_at m u ≡ Some f
      → Uses (world m) u n → IsOwnNode u n → f.lock ≡ l → entry_at m l ≡ None
      → length m.hash < 4 * length m.cpus
  hash_room l n u f live uses own acts absent =
      let few : length (n ∷ nodes_of m.hash) ≤ 4 * length m.cpus =
      nodes_few (length m.cpus) (n ∷ nodes_of m.hash) low once in
      omega (arith, few, length-map m.hash (λ (e : Entry). e.1))
    where
      new : User l n
      new = record { waiter = u; frame = f; live = live; uses = uses; own = own; acts = acts }

      low : (i : ℕ) (k : NodeName) → slice_get (n ∷ nodes_of m.hash) i ≡ Some k
          → (k.cpu < length m.cpus) × (k.index < 4)
      low zero k at =
          subst (λ (x : NodeName). (x.cpu < length m.cpus) × (x.index < 4)) (same_Some n k at)
          (user_within l n new)
      low (suc i) k at =
          let e = entry_of m.hash i k at in
          subst (λ (x : NodeName). (x.cpu < length m.cpus) × (x.index < 4)) e.2
          (user_within e.0.0 e.0.1 (listed_user i e.0 e.1))

      -- the new node is in no entry
      apart : (i : ℕ) (k : NodeName) → n ≡ k → slice_get (nodes_of m.hash) i ≡ Some k → ⊥
      apart i k same at =
          let e = entry_of m.hash i k at in
          let its : User e.0.0 n =
          subst (λ (x : NodeName). User e.0.0 x) (e.2 ∙ sym same) (listed_user i e.0 e.1) in
          none-some e.0.1 (sym absent ∙ ap (entry_at m) (users_meet l e.0.0 n new its)
          ∙ listed_now i e.0 e.1)

      once : (i j : ℕ) (k : NodeName) → slice_get (n ∷ nodes_of m.hash) i ≡ Some k
          → slice_get (n ∷ nodes_of m.hash) j ≡ Some k → i ≡ j
      once zero zero k at bt = refl
      once zero (suc j) k at bt = absurd (apart j k (same_Some n k at) bt)
      once (suc i) zero k at bt = absurd (apart i k (same_Some n k bt) at)
      once (suc i) (suc j) k at bt =
          let d = entry_of m.hash i k at in
          let e = entry_of m.hash j k bt in
          let its : User e.0.0 d.0.1 =
          subst (λ (x : NodeName). User e.0.0 x) (e.2 ∙ sym d.2) (listed_user j e.0 e.1) in
          ap suc (once_at m.hash shows.whole.hash i j d.0 e.0 d.1 e.1
          (users_meet d.0.0 e.0.0 d.0.1 (listed_user i d.0 d.1) its))
