-- What is kept of states.
use Rattle.std.proofs.Common.{◌≡◌, ℕ, ◌<◌, ◌≤◌, ◌+◌, ◌*◌, List, [], ◌∷◌, ◌++◌, length, Option, Some}
use Rattle.std.proofs.Common.{arith, ap, refl, sym, ◌∙◌, subst, zero, suc, append-nil, append_assoc}
use Rattle.std.proofs.Common.{inl, inr, set, slice_get, slice_index_or, get_or, length-set}
use Rattle.std.proofs.lemmas.List.{ext_get_or, get_or-set_same, get_or-set_other}
use Rattle.std.specs.Int.{IsNextPowerOfTwo}
use Rattle.lk_reach.proofs.Names.{cases_eq, slice_get-get_or, slice_get_within, CpuState, Machine}
use Rattle.lk_reach.proofs.Names.{no_cpu, Setup, SharedValue, Grows, HasShared, IsFront, Keeps}
use Rattle.lk_reach.proofs.Names.{KeyKeeps, SpaceValue, Key}
use Rattle.lk_rows.specs.{Layouts.layout_of, Machine.{cpu_at, set_cpu}}
use Rattle.lk_machine.specs.Parts.{Fits, Holds}

-- an item stays where it is
pub front_get : {A : Type 0} → (xs ys : List A) (i : ℕ) (x : A) → slice_get xs i ≡ Some x
    → slice_get (xs ++ ys) i ≡ Some x
front_get [] ys i x e = cc
front_get (y ∷ xs) ys zero x e = e
front_get (y ∷ xs) ys (suc i) x e = front_get xs ys i x e

pub front_at : {A : Type 0} → (xs ys : List A) → IsFront xs ys → (i : ℕ) (x : A)
    → slice_get xs i ≡ Some x → slice_get ys i ≡ Some x
front_at xs ys f i x e = rw f.1 (front_get xs f.0 i x e)

-- the list itself, and one that goes on twice
pub front_self : {A : Type 0} → (xs : List A) → IsFront xs xs
front_self [] = ([], refl)
front_self (x ∷ xs) = ([], ap (λ ys. x ∷ ys) (sym (append-nil xs)))

pub one_value : {A : Type 0} → (o : Option A) (x y : A) → o ≡ Some x → o ≡ Some y → x ≡ y
one_value o x y e f = cc

-- what a key keeps, it keeps when more is met
pub key_grown : (v w : SpaceValue) → Grows v w → (key : Key) (s : Machine)
    → KeyKeeps v.parts v.shareds key s → KeyKeeps w.parts w.shareds key s
key_grown v w g key s k = record {
  shared = record {
    item = k.shared.item;
    is = front_at v.shareds w.shareds g.shareds key.shared k.shared.item k.shared.is;
    holds = k.shared.holds;
  };
  each = λ p low. let e = k.each p low in
      (e.0, e.1, front_at v.parts w.parts g.parts e.0 (cpu_at s p) e.2);
}

pub keeps_grown : (v w : SpaceValue) → Grows v w → (k : ℕ) (s : Machine) → Keeps v k s → Keeps w k s
keeps_grown v w g k s has = record {
  key = has.key;
  is = front_at v.keys w.keys g.keys k has.key has.is;
  keeps = key_grown v w g has.key s has.keeps;
}

-- the parts of a machine are the machine
pub same_machine : (s t : Machine) → s.setup ≡ t.setup → s.locks ≡ t.locks → s.cpus ≡ t.cpus
    → s.hash ≡ t.hash → s.counts ≡ t.counts → s ≡ t
same_machine s t setup locks cpus hash counts =
    (λ i. record { setup = setup i; locks = locks i; cpus = cpus i; hash = hash i; counts = counts i })

-- a number keeps one state
pub keeps_one : (v : SpaceValue) (k : ℕ) (s t : Machine) → Keeps v k s → Keeps v k t
    → s.setup ≡ t.setup → s.counts ≡ t.counts → length s.cpus ≡ length t.cpus → s ≡ t
unfolding cpu_at
keeps_one v k s t a b setup counts cpus =
    let key : a.key ≡ b.key = one_value (slice_get v.keys k) a.key b.key a.is b.is in
    let at : slice_get v.shareds a.key.shared ≡ slice_get v.shareds b.key.shared =
    ap (λ (x : Key). slice_get v.shareds x.shared) key in
    let item : a.keeps.shared.item ≡ b.keeps.shared.item =
    one_value (slice_get v.shareds b.key.shared) a.keeps.shared.item b.keeps.shared.item
    (sym at ∙ a.keeps.shared.is) b.keeps.shared.is in
    let locks : s.locks ≡ t.locks =
    sym a.keeps.shared.holds.locks ∙ ap (λ (x : SharedValue). x.locks) item ∙ b.keeps.shared.holds.locks in
    let hash : s.hash ≡ t.hash =
    sym a.keeps.shared.holds.hash ∙ ap (λ (x : SharedValue). x.hash) item ∙ b.keeps.shared.holds.hash in
    let each : (p : ℕ) → p < length s.cpus → slice_index_or s.cpus p no_cpu ≡ slice_index_or t.cpus p no_cpu =
    (λ p low. one_part p low) in
    same_machine s t setup locks (ext_get_or no_cpu s.cpus t.cpus cpus each) hash counts
  where
    one_part : (p : ℕ) → p < length s.cpus → cpu_at s p ≡ cpu_at t p
    one_part p low =
        let x = a.keeps.each p low in
        let y = b.keeps.each p (omega (arith, low, cpus)) in
        let key : a.key ≡ b.key = one_value (slice_get v.keys k) a.key b.key a.is b.is in
        let number : x.0 ≡ y.0 =
        one_value (slice_get b.key.cpus p) x.0 y.0
        (sym (ap (λ (z : Key). slice_get z.cpus p) key) ∙ x.1) y.1 in
        one_value (slice_get v.parts y.0) (cpu_at s p) (cpu_at t p)
        (sym (ap (λ (n : ℕ). slice_get v.parts n) number) ∙ x.2) y.2

pub front_then : {A : Type 0} → (xs ys zs : List A) → IsFront xs ys → IsFront ys zs → IsFront xs zs
front_then xs ys zs a b = (a.0 ++ b.0, b.1 ∙ ap (λ us. us ++ b.0) a.1 ∙ append_assoc xs a.0 b.0)

-- one item is set
pub set_same : {A : Type 0} → (xs : List A) (i : ℕ) (x : A) → i < length xs → slice_get (set xs i x) i ≡ Some x
set_same [] i x low = absurd (omega (arith, low))
set_same (y ∷ xs) zero x low = refl
set_same (y ∷ xs) (suc i) x low = set_same xs i x (omega (arith, low))

pub set_other : {A : Type 0} → (xs : List A) (i j : ℕ) (x : A) → (j ≡ i → ⊥) → slice_get (set xs i x) j ≡ slice_get xs j
set_other [] i j x ne = refl
set_other (y ∷ xs) zero zero x ne = absurd (ne refl)
set_other (y ∷ xs) zero (suc j) x ne = refl
set_other (y ∷ xs) (suc i) zero x ne = refl
set_other (y ∷ xs) (suc i) (suc j) x ne = set_other xs i j x (λ e. ne (ap suc e))

-- the first processors have numbers of parts
abbrev pub Numbered : List ℕ → List CpuState → Machine → ℕ → Type 0
Numbered cpus parts m n = (p : ℕ) → p < n
    → (i : ℕ) × (slice_get cpus p ≡ Some i) × (slice_get parts i ≡ Some (cpu_at m p))

pub numbered_then : (cpus : List ℕ) (parts more : List CpuState) (m : Machine) (n i : ℕ)
    → n < length cpus → IsFront parts more → Numbered cpus parts m n
    → slice_get more i ≡ Some (cpu_at m n) → Numbered (set cpus n i) more m (n + 1)
numbered_then cpus parts more m n i room front before found p low =
    elim (cases_eq p n) [
      | inl e ↦ subst (λ (q : ℕ). (k : ℕ) × (slice_get (set cpus n i) q ≡ Some k)
          × (slice_get more k ≡ Some (cpu_at m q))) (sym e) (i, set_same cpus n i room, found)
      | inr ne ↦ let b = before p (omega (arith, low, ne)) in
          (b.0, set_other cpus n p i ne ∙ b.1, front_at parts more front b.0 (cpu_at m p) b.2)
    ]

-- a processor is put back
pub put_numbered : (cpus : List ℕ) (parts : List CpuState) (m : Machine) (n i : ℕ) (c : CpuState)
    → n < length m.cpus → slice_get cpus n ≡ Some i → slice_get parts i ≡ Some c
    → Numbered cpus parts m n → Numbered cpus parts (set_cpu m n c) (n + 1)
unfolding set_cpu cpu_at
put_numbered cpus parts m n i c room number part before p low =
    elim (cases_eq p n) [
      | inl e ↦ subst (λ (q : ℕ). (k : ℕ) × (slice_get cpus q ≡ Some k)
          × (slice_get parts k ≡ Some (get_or (set m.cpus n c) q no_cpu))) (sym e)
          (i, number, part ∙ ap Some (sym (get_or-set_same m.cpus n c no_cpu room)))
      | inr ne ↦ let b = before p (omega (arith, low, ne)) in
          (b.0, b.1, b.2 ∙ ap Some (sym (get_or-set_other m.cpus n p c no_cpu ne)))
    ]

-- the processors are as many
pub set_cpus : (m : Machine) (n : ℕ) (c : CpuState) → length (set_cpu m n c).cpus ≡ length m.cpus
unfolding set_cpu
set_cpus m n c = length-set m.cpus n c

pub set_locks : (m : Machine) (n : ℕ) (c : CpuState) → length (set_cpu m n c).locks ≡ length m.locks
unfolding set_cpu
set_locks m n c = refl

pub set_shared : (items : List SharedValue) (i n : ℕ) (m : Machine) (c : CpuState)
    → HasShared items i m → HasShared items i (set_cpu m n c)
unfolding set_cpu
set_shared items i n m c h = record {
  item = h.item;
  is = h.is;
  holds = record {
    fits = record {
      layout = h.holds.fits.layout;
      locks = h.holds.fits.locks;
      places = subst (λ (k : ℕ). IsNextPowerOfTwo (4 * k) h.item.places) (sym (length-set m.cpus n c))
          h.holds.fits.places;
    };
    locks = h.holds.locks;
    hash = h.holds.hash;
  };
}

-- what a state has fits a machine with as many processors and locks
pub fitting : (s m : Machine) (x : SharedValue) → s.setup ≡ m.setup → length s.cpus ≡ length m.cpus
    → length s.locks ≡ length m.locks → Holds x s → Fits x m
fitting s m x setup cpus locks h = record {
  layout = h.fits.layout ∙ ap (λ (z : Setup). layout_of z.format) setup;
  locks = h.fits.locks ∙ locks;
  places = subst (λ (k : ℕ). IsNextPowerOfTwo (4 * k) x.places) cpus h.fits.places;
}

-- and the machine that takes it up has it
pub put_holds : (m : Machine) (x : SharedValue) → Fits x m
    → Holds x (record m { locks = x.locks; hash = x.hash })
put_holds m x f = record {
  fits = record { layout = f.layout; locks = refl; places = f.places };
  locks = refl;
  hash = refl;
}

pub set_same_setup : (m : Machine) (n : ℕ) (c : CpuState)
    → ((set_cpu m n c).setup ≡ m.setup) × ((set_cpu m n c).counts ≡ m.counts)
unfolding set_cpu
set_same_setup m n c = (refl, refl)

-- all processors
pub all_numbered : (cpus : List ℕ) (parts : List CpuState) (m : Machine) (n : ℕ) → length m.cpus ≤ n
    → Numbered cpus parts m n → (p : ℕ) → p < length m.cpus
    → (i : ℕ) × (slice_get cpus p ≡ Some i) × (slice_get parts i ≡ Some (cpu_at m p))
all_numbered cpus parts m n most each p low = each p (omega (arith, most, low))

-- what `get` finds stands there
pub got : {A : Type 0} → (xs ys : List A) (i : ℕ) (x : A) → xs ≡ ys
    → (i < length xs) × ((d : A) → x ≡ get_or xs i d) → slice_get ys i ≡ Some x
got xs ys i x e h =
    subst (λ zs. slice_get zs i ≡ Some x) e (slice_get-get_or xs i x h.0 ∙ ap Some (sym (h.1 x)))

-- the key that stands at a number is the key of the state that is kept there
pub key_there : (v : SpaceValue) (k : ℕ) (s : Machine) (key : Key) (has : Keeps v k s) → slice_get v.keys k ≡ Some key
    → has.key ≡ key
key_there v k s key has at = one_value (slice_get v.keys k) has.key key has.is at

-- and its numbers are those of the state's parts
pub part_there : (v : SpaceValue) (k : ℕ) (s : Machine) (key : Key) (has : Keeps v k s) → has.key ≡ key
    → (p i : ℕ) → p < length s.cpus → slice_get key.cpus p ≡ Some i → slice_get v.parts i ≡ Some (cpu_at s p)
part_there v k s key has same p i low number =
    let e = has.keeps.each p low in
    subst (λ (j : ℕ). slice_get v.parts j ≡ Some (cpu_at s p))
    (one_value (slice_get key.cpus p) e.0 i (sym (ap (λ (z : Key). slice_get z.cpus p) same) ∙ e.1) number) e.2

pub shared_there : (v : SpaceValue) (k : ℕ) (s : Machine) (key : Key) (has : Keeps v k s) → has.key ≡ key
    → HasShared v.shareds key.shared s
shared_there v k s key has same = subst (λ (z : Key). HasShared v.shareds z.shared s) same has.keeps.shared

pub item_there : (items : List SharedValue) (i : ℕ) (s : Machine) (x : SharedValue) → HasShared items i s
    → x ≡ get_or items i x → Holds x s
item_there items i s x h at =
    subst (λ (z : SharedValue). Holds z s)
    (one_value (slice_get items i) h.item x h.is
    (slice_get-get_or items i x (slice_get_within items i h.item h.is) ∙ ap Some (sym at))) h.holds

-- what is not below the count is not there
pub low_there : {A : Type 0} → (xs : List A) (i : ℕ) (x : A) → slice_get xs i ≡ Some x → i < length xs
low_there xs i x e = slice_get_within xs i x e
