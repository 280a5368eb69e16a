-- Parts and keys, and their forms.
use Rattle.std.proofs.Common.{◌≡◌, ℕ, ◌<◌, ◌≤◌, ◌+◌, ◌-◌, List, [], ◌∷◌, ◌++◌, length, Some, arith}
use Rattle.std.proofs.Common.{ap, refl, sym, ◌∙◌, subst, zero, suc, Bool, true, false, ◌||◌, inl}
use Rattle.std.proofs.Common.{inr, map, get_or, set, slice_get, length-set, append-nil}
use Rattle.std.proofs.Common.{if◌then◌else◌}
use Rattle.std.proofs.lemmas.List.{ext_get_or}
use Rattle.std.specs.Prelude.{unwrap_or}
use Rattle.lk_reach.proofs.Names.{cases_eq, slice_get-get_or, slice_get_within, get-append}
use Rattle.lk_reach.proofs.Names.{get-append_new, CpuState, Machine, no_cpu, rest_frame, top_frame}
use Rattle.lk_reach.proofs.Names.{Frame, SharedValue, AreAlike, bared, bared_cpu, rested_frame}
use Rattle.lk_reach.proofs.Names.{Folds, Grows, IsFront, IsSameKind, Keeps, KeyKeeps, Rests}
use Rattle.lk_reach.proofs.Names.{SpaceValue, Key}
use Rattle.lk_rows.specs.Machine.{cpu_at, depth_at, frame_at, node_at, rest_node, set_cpu, set_node}
use Rattle.lk_rows.specs.Machine.{set_top}
use Rattle.lk_core.proofs.Access.{cpu_same}
use Rattle.lk_idle.proofs.{Frames.rested_twice, FreeNodes.unowned_freed, Goes.nodes_rested}
use Rattle.lk_idle.proofs.Lists.{get_or_mapped, set_mapped}
use Rattle.lk_idle.specs.Alike.{rested_cpu}
use Rattle.lk_idle.specs.Free.{freed, freed_cpu, freed_node, freed_nodes, is_owned, owns}
use Rattle.lk_reach.proofs.{Kept.{front_at, front_self, keeps_one, one_value}, Likeness.cpus_bared}
use Rattle.lk_reach.specs.Space.{AreFormed, HasForm, HaveForm, IsFoldOf, IsFormed, IsNumberOf}
use Rattle.lk_reach.specs.Space.{SameStates}

-- what is formed stays so when there is more
pub formed_grown : (parts more forms others : List CpuState) (classes : List ℕ) → IsFront parts more
    → IsFront forms others → AreFormed parts forms classes → AreFormed more others classes
formed_grown parts more forms others classes f g all i c at =
    let x = all i c at in
    record {
      part = x.part;
      is_part = front_at parts more f i x.part x.is_part;
      form = x.form;
      is_form = front_at forms others g c x.form x.is_form;
      alike = x.alike;
    }

-- the same with what stayed
pub formed_kept : (v : SpaceValue) (parts forms : List CpuState) (classes : List ℕ) → IsFront v.parts parts
    → forms ≡ v.forms → classes ≡ v.classes → AreFormed v.parts v.forms v.classes → AreFormed parts forms classes
formed_kept v parts forms classes front same also all =
    subst (λ (cs : List ℕ). AreFormed parts forms cs) (sym also)
    (subst (λ (fs : List CpuState). AreFormed parts fs v.classes) (sym same)
    (formed_grown v.parts parts v.forms v.forms v.classes front (front_self v.forms) all))

-- one class more
pub formed_push : (parts forms : List CpuState) (classes more : List ℕ) (i c : ℕ) (part : CpuState)
    → slice_get parts i ≡ Some part → HasForm forms c part → i ≡ length classes → more ≡ classes ++ c ∷ []
    → AreFormed parts forms classes → AreFormed parts forms more
formed_push parts forms classes more i c part is has last pushed all j d at =
    elim (get-append classes c j d (subst (λ (xs : List ℕ). slice_get xs j ≡ Some d) pushed at)) [
      | inl old ↦ all j d old
      | inr new ↦
          subst (λ (e : ℕ). IsFormed parts forms j e) (sym new.1)
          (subst (λ (k : ℕ). IsFormed parts forms k c) (last ∙ sym new.0) (record {
            part = part;
            is_part = is;
            form = has.form;
            is_form = has.is;
            alike = has.alike;
          }))
    ]

-- one class more, if there was memory for it
pub formed_more : (parts forms others : List CpuState) (classes more : List ℕ) (i c : ℕ) (part : CpuState) (b : Bool)
    → slice_get parts i ≡ Some part → IsFront forms others → HasForm others c part → i ≡ length classes
    → more ≡ (if b then classes ++ c ∷ [] else classes) → AreFormed parts forms classes
    → AreFormed parts others more
formed_more parts forms others classes more i c part true is front has last pushed all =
    formed_push parts others classes more i c part is has last pushed
    (formed_grown parts parts forms others classes (front_self parts) front all)
formed_more parts forms others classes more i c part false is front has last pushed all =
    subst (λ (cs : List ℕ). AreFormed parts others cs) (sym pushed)
    (formed_grown parts parts forms others classes (front_self parts) front all)

-- the part of a processor, by the key of the state
pub part_of_key : (parts : List CpuState) (shareds : List SharedValue) (key : Key) (m : Machine) (p : ℕ)
    → KeyKeeps parts shareds key m → p < length m.cpus → slice_get parts (get_or key.cpus p 0) ≡ Some (cpu_at m p)
part_of_key parts shareds key m p keeps low =
    let e = keeps.each p low in
    subst (λ (i : ℕ). slice_get parts i ≡ Some (cpu_at m p))
    (one_value (slice_get key.cpus p) e.0 (get_or key.cpus p 0) e.1
    (slice_get-get_or key.cpus p 0 (slice_get_within key.cpus p e.0 e.1))) e.2

-- what stays, and what comes behind it
pub front_same : {A : Type 0} → (xs ys : List A) → xs ≡ ys → IsFront ys xs
front_same xs ys e = ([], e ∙ sym (append-nil ys))

pub front_more : {A : Type 0} → (xs ys zs : List A) (x : A) → xs ≡ ys → zs ≡ xs ++ x ∷ [] → IsFront ys zs
front_more xs ys zs x e f = (x ∷ [], f ∙ ap (λ us. us ++ x ∷ []) e)

pub same_grows : (v w : SpaceValue) → SameStates v w → Grows v w
same_grows v w same = record {
  parts = front_same w.parts v.parts same.parts;
  shareds = front_same w.shareds v.shareds same.shareds;
  keys = front_same w.keys v.keys same.keys;
  folds = front_same w.folds v.folds same.folds;
}

-- one key more
pub pushed_last : (xs ys : List Key) (key : Key) (k : ℕ) → ys ≡ xs ++ key ∷ [] → k ≡ length xs → slice_get ys k ≡ Some key
pushed_last xs ys key k pushed last =
    subst (λ (n : ℕ). slice_get ys n ≡ Some key) (sym last)
    (subst (λ (zs : List Key). slice_get zs (length xs) ≡ Some key) (sym pushed) (get-append_new xs key))

pub pushed_grows : (v w : SpaceValue) → w.parts ≡ v.parts → w.shareds ≡ v.shareds → IsFront v.keys w.keys → w.folds ≡ v.folds
    → Grows v w
pushed_grows v w parts shareds keys folds = record {
  parts = front_same w.parts v.parts parts;
  shareds = front_same w.shareds v.shareds shareds;
  keys = keys;
  folds = front_same w.folds v.folds folds;
}

pub folded_grows : (v w : SpaceValue) (key fold : Key) → w.parts ≡ v.parts → w.shareds ≡ v.shareds
    → w.keys ≡ v.keys ++ key ∷ [] → w.folds ≡ v.folds ++ fold ∷ [] → Grows v w
folded_grows v w key fold parts shareds keys folds = record {
  parts = front_same w.parts v.parts parts;
  shareds = front_same w.shareds v.shareds shareds;
  keys = (key ∷ [], keys);
  folds = (fold ∷ [], folds);
}

-- no class
pub formed_none : (parts forms : List CpuState) → AreFormed parts forms []
formed_none parts forms i c at = cc

-- what is set is what was there
set_own : {A : Type 0} (xs : List A) (i : ℕ) (d : A) → set xs i (unwrap_or (slice_get xs i) d) ≡ xs
set_own [] i d = refl
set_own (x ∷ xs) zero d = refl
set_own (x ∷ xs) (suc i) d = ap (λ ys. x ∷ ys) (set_own xs i d)

set_here : {A : Type 0} (xs : List A) (i : ℕ) (d : A) → set xs i (get_or xs i d) ≡ xs
set_here [] i d = refl
set_here (x ∷ xs) zero d = refl
set_here (x ∷ xs) (suc i) d = ap (λ ys. x ∷ ys) (set_here xs i d)

set_again : {A : Type 0} (xs : List A) (i : ℕ) (x y : A) → set (set xs i y) i x ≡ set xs i x
set_again [] i x y = refl
set_again (z ∷ xs) zero x y = refl
set_again (z ∷ xs) (suc i) x y = ap (λ ys. z ∷ ys) (set_again xs i x y)

-- the frames with the newest one at rest
abbrev pub topped : List Frame → Frame → List Frame
topped fs f = set fs (length fs - 1) f

abbrev newest : List Frame → Frame
newest fs = unwrap_or (slice_get fs (length fs - 1)) rest_frame

topped_alike : (fs : List Frame)
    → map (λ f. rested_frame f) (topped fs (rested_frame (newest fs))) ≡ map (λ f. rested_frame f) fs
topped_alike fs =
    let i = length fs - 1 in
    sym (set_mapped (λ f. rested_frame f) fs i (rested_frame (newest fs)))
    ∙ ap (λ f. set (map (λ f. rested_frame f) fs) i f) (rested_twice (newest fs))
    ∙ set_mapped (λ f. rested_frame f) fs i (newest fs)
    ∙ ap (λ xs. map (λ f. rested_frame f) xs) (set_own fs i rest_frame)

-- one part is put in place of another, and back
put_twice : (m : Machine) (p : ℕ) (c d : CpuState) → set_cpu (set_cpu m p c) p d ≡ set_cpu m p d
unfolding set_cpu
put_twice m p c d = (λ i. record m { cpus = set_again m.cpus p d c i })

put_own : (m : Machine) (p : ℕ) → set_cpu m p (cpu_at m p) ≡ m
unfolding set_cpu cpu_at
put_own m p = (λ i. record m { cpus = set_here m.cpus p no_cpu i })

as_many : (m : Machine) (p : ℕ) (c : CpuState) → length (set_cpu m p c).cpus ≡ length m.cpus
unfolding set_cpu
as_many m p c = length-set m.cpus p c

-- a part rests
pub rests_count : (m n : Machine) (p : ℕ) → Rests m n p → length n.cpus ≡ length m.cpus
rests_count m n p r = ap (λ (k : Machine). length k.cpus) r.only ∙ as_many m p r.part

pub rests_alike : (m n : Machine) (p : ℕ) → p < length m.cpus → Rests m n p
    → bared_cpu (cpu_at n p) ≡ bared_cpu (cpu_at m p)
rests_alike m n p low r =
    ap (λ (k : Machine). bared_cpu (cpu_at k p)) r.only
    ∙ ap (λ (c : CpuState). bared_cpu c) (cpu_same m p r.part low) ∙ r.alike

pub rests_back : (m n : Machine) (p : ℕ) → Rests m n p → set_cpu n p (cpu_at m p) ≡ m
rests_back m n p r =
    ap (λ k. set_cpu k p (cpu_at m p)) r.only ∙ put_twice m p r.part (cpu_at m p) ∙ put_own m p

pub rests_self : (m : Machine) (p : ℕ) → Rests m m p
rests_self m p = record { part = cpu_at m p; only = sym (put_own m p); alike = refl }

pub rests_then : (m n k : Machine) (p : ℕ) → p < length m.cpus → Rests m n p → Rests n k p → Rests m k p
rests_then m n k p low r s = record {
  part = s.part;
  only = s.only ∙ ap (λ z. set_cpu z p s.part) r.only ∙ put_twice m p r.part s.part;
  alike = s.alike ∙ rests_alike m n p low r;
}

-- the newest frame rests
pub rests_top : (m : Machine) (p : ℕ) → Rests m (set_top m p (rested_frame (top_frame m p))) p
unfolding set_top depth_at frame_at
rests_top m p =
    let c = cpu_at m p in
    let fs = topped c.frames (rested_frame (newest c.frames)) in
    let nodes : freed_nodes fs 0 c.nodes ≡ freed_nodes c.frames 0 c.nodes =
    sym (nodes_rested fs 0 c.nodes) ∙ ap (λ gs. freed_nodes gs 0 c.nodes) (topped_alike c.frames)
    ∙ nodes_rested c.frames 0 c.nodes in
    record {
      part = record c { frames = fs };
      only = refl;
      alike = (λ i. record c { frames = topped_alike c.frames i; nodes = nodes i });
    }

-- a node without an owner rests
pub rests_node : (m : Machine) (p j : ℕ) → is_owned (cpu_at m p).frames j ≡ false
    → Rests m (set_node m (record { cpu = p; index = j })
    (freed_node false (node_at m (record { cpu = p; index = j })))) p
unfolding set_node node_at
rests_node m p j none =
    let c = cpu_at m p in
    record {
      part = record c { nodes = set c.nodes j (freed_node false (get_or c.nodes j rest_node)) };
      only = refl;
      alike = (λ i. record c {
        frames = map (λ f. rested_frame f) c.frames;
        nodes = unowned_freed c.frames c.nodes j none i;
      });
    }

-- the frames of a processor
pub frame_there : (m : Machine) (p c : ℕ) (f : Frame) → frame_at m (record { cpu = p; ctx = c }) ≡ Some f
    → slice_get (cpu_at m p).frames c ≡ Some f
unfolding frame_at
frame_there m p c f e = e

pub depth_is : (m : Machine) (p : ℕ) → depth_at m p ≡ length (cpu_at m p).frames
unfolding depth_at
depth_is m p = refl

-- no frame so far has the node
abbrev pub NoneOwns : List Frame → ℕ → ℕ → Type 0
NoneOwns fs j n = (i : ℕ) (f : Frame) → i < n → slice_get fs i ≡ Some f → owns f.me j ≡ false

pub none_then : (fs : List Frame) (j n : ℕ) (f : Frame) → slice_get fs n ≡ Some f → owns f.me j ≡ false
    → NoneOwns fs j n → NoneOwns fs j (n + 1)
none_then fs j n f at none before i g low here =
    elim (cases_eq i n) [
      | inl e ↦ subst (λ (h : Frame). owns h.me j ≡ false)
          (one_value (slice_get fs n) f g at (subst (λ (k : ℕ). slice_get fs k ≡ Some g) e here)) none
      | inr ne ↦ before i g (omega (arith, low, ne)) here
    ]

pub none_owns : (fs : List Frame) (j n : ℕ) → length fs ≤ n → NoneOwns fs j n → is_owned fs j ≡ false
none_owns [] j n all none = refl
none_owns (f ∷ fs) j n all none =
    both (owns f.me j) (is_owned fs j) (none 0 f (omega (arith, all)) refl)
    (none_owns fs j (n - 1) (omega (arith, all))
    (λ i g low at. none (suc i) g (omega (arith, low)) at))
  where
    both : (a b : Bool) → a ≡ false → b ≡ false → (a || b) ≡ false
    both false b x y = y
    both true b x y = cc

-- keys of the same form keep states that are alike
same_parts : (v : SpaceValue) (a b : Key) (s t : Machine) → AreFormed v.parts v.forms v.classes
    → HaveForm v.classes a b → KeyKeeps v.parts v.shareds a s → KeyKeeps v.parts v.shareds b t
    → (p : ℕ) → p < length s.cpus → p < length t.cpus → bared_cpu (cpu_at s p) ≡ bared_cpu (cpu_at t p)
same_parts v a b s t formed have x y p low also =
    let i = x.each p low in
    let j = y.each p also in
    elim (have.each p i.0 j.0 i.1 j.1) [
      | inl same ↦
          ap (λ (z : CpuState). bared_cpu z) (one_value (slice_get v.parts j.0) (cpu_at s p) (cpu_at t p)
          (subst (λ (n : ℕ). slice_get v.parts n ≡ Some (cpu_at s p)) same i.2) j.2)
      | inr class ↦
          let f = formed i.0 class.0 class.1 in
          let g = formed j.0 class.0 class.2 in
          let form : f.form ≡ g.form = one_value (slice_get v.forms class.0) f.form g.form f.is_form g.is_form in
          let one : f.part ≡ cpu_at s p = one_value (slice_get v.parts i.0) f.part (cpu_at s p) f.is_part i.2 in
          let other : g.part ≡ cpu_at t p = one_value (slice_get v.parts j.0) g.part (cpu_at t p) g.is_part j.2 in
          ap (λ (z : CpuState). bared_cpu z) (sym one) ∙ sym f.alike ∙ ap (λ (z : CpuState). bared_cpu z) form
          ∙ g.alike ∙ ap (λ (z : CpuState). bared_cpu z) other
    ]

part_bared : (m : Machine) (p : ℕ) → get_or (bared m).cpus p no_cpu ≡ bared_cpu (cpu_at m p)
unfolding cpu_at
part_bared m p =
    get_or_mapped (λ c. rested_cpu c) (freed m).cpus p no_cpu
    ∙ ap (λ c. rested_cpu c) (get_or_mapped (λ c. freed_cpu c) m.cpus p no_cpu)

pub form_alike : (v : SpaceValue) (a b : Key) (s t : Machine) → AreFormed v.parts v.forms v.classes
    → HaveForm v.classes a b → KeyKeeps v.parts v.shareds a s → KeyKeeps v.parts v.shareds b t
    → s.setup ≡ t.setup → s.counts ≡ t.counts → length s.cpus ≡ length t.cpus → AreAlike s t
form_alike v a b s t formed have x y setup counts cpus =
    let at : slice_get v.shareds a.shared ≡ slice_get v.shareds b.shared =
    ap (λ (n : ℕ). slice_get v.shareds n) have.shared in
    let item : x.shared.item ≡ y.shared.item =
    one_value (slice_get v.shareds b.shared) x.shared.item y.shared.item (sym at ∙ x.shared.is) y.shared.is in
    let locks : s.locks ≡ t.locks =
    sym x.shared.holds.locks ∙ ap (λ (z : SharedValue). z.locks) item ∙ y.shared.holds.locks in
    let hash : s.hash ≡ t.hash =
    sym x.shared.holds.hash ∙ ap (λ (z : SharedValue). z.hash) item ∙ y.shared.holds.hash in
    let size = cpus_bared s ∙ cpus ∙ sym (cpus_bared t) in
    let each : (p : ℕ) → p < length (bared s).cpus → get_or (bared s).cpus p no_cpu ≡ get_or (bared t).cpus p no_cpu =
    (λ p low.
    let one = cpus_bared s in
    part_bared s p ∙ same_parts v a b s t formed have x y p (omega (arith, low, one)) (omega (arith, low, one, cpus))
    ∙ sym (part_bared t p)) in
    let parts = ext_get_or no_cpu (bared s).cpus (bared t).cpus size each in
    (λ i. record { setup = setup i; locks = locks i; cpus = parts i; hash = hash i; counts = counts i })

-- what the number of a key keeps is like the state of the key
pub number_alike : (v : SpaceValue) (k : ℕ) (key : Key) (s t : Machine) → AreFormed v.parts v.forms v.classes
    → IsNumberOf v k key → KeyKeeps v.parts v.shareds key t → Keeps v k s → IsSameKind s t → AreAlike s t
number_alike v k key s t formed n here has kind =
    let item : has.key ≡ n.item = one_value (slice_get v.keys k) has.key n.item has.is n.is in
    elim n.same [
      | inl same ↦ ap (λ (m : Machine). bared m) (keeps_one v k s t has (record {
        key = key;
        is = n.is ∙ ap Some same;
        keeps = here;
      }) kind.setup kind.counts kind.cpus)
      | inr have ↦ form_alike v n.item key s t formed have
          (subst (λ (z : Key). KeyKeeps v.parts v.shareds z s) item has.keeps) here kind.setup kind.counts kind.cpus
    ]

-- a key keeps one state
pub key_one : (parts : List CpuState) (shareds : List SharedValue) (key : Key) (s t : Machine) → KeyKeeps parts shareds key s
    → KeyKeeps parts shareds key t → IsSameKind s t → s ≡ t
key_one parts shareds key s t a b kind =
    let v : SpaceValue = record { parts = parts; shareds = shareds; keys = key ∷ []; folds = []; forms = []; classes = [] } in
    keeps_one v 0 s t (record { key = key; is = refl; keeps = a }) (record { key = key; is = refl; keeps = b })
    kind.setup kind.counts kind.cpus

-- the fold that is found is like that of the key
pub fold_alike : (v : SpaceValue) (k : ℕ) (key : Key) (s t : Machine) → AreFormed v.parts v.forms v.classes
    → IsFoldOf v k key → KeyKeeps v.parts v.shareds key t → Folds v k s → IsSameKind s t → AreAlike s t
fold_alike v k key s t formed n here has kind =
    let item : has.key ≡ n.item = one_value (slice_get v.folds k) has.key n.item has.is n.is in
    let keeps = subst (λ (z : Key). KeyKeeps v.parts v.shareds z s) item has.keeps in
    elim n.same [
      | inl same ↦ ap (λ (m : Machine). bared m) (key_one v.parts v.shareds key s t
          (subst (λ (z : Key). KeyKeeps v.parts v.shareds z s) same keeps) here kind)
      | inr have ↦ form_alike v n.item key s t formed have keeps here kind.setup kind.counts kind.cpus
    ]
