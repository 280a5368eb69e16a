-- Which parts the states have, and which rows they make by them.
use Rattle.std.proofs.Common.{◌≡◌, ◌<◌, ◌+◌, ◌++◌, ◌∷◌, [], ℕ, zero, suc, Bool, true, false, List}
use Rattle.std.proofs.Common.{length, replicate, refl, Some, arith, ap, ◌∙◌, inl, inr, subst, sym}
use Rattle.std.proofs.Common.{slice_get}
use Rattle.std.proofs.lemmas.List.{length-replicate}
use Rattle.lk_reach.proofs.Names.{cases_eq, slice_get_within, get-append_new, CpuState, Pc, row_of}
use Rattle.lk_reach.proofs.Names.{IsMarkedOnly, AreUsed, SpaceValue, Key}
use Rattle.lk_rows.specs.Machine.{cpu_at}
use Rattle.lk_reach.proofs.{Ending.some_mark, Kept.{key_there, one_value, part_there}}
use Rattle.lk_reach.specs.Rows.{AreUsedNow, IsMade, IsUnmade, MakesMarked}

-- of marks that are not set none is
none_set : (n i : ℕ) → slice_get (replicate n false) i ≡ Some true → ⊥
none_set zero i here = cc
none_set (suc n) zero here = cc
none_set (suc n) (suc i) here = none_set n i here

-- no processor yet
pub used_none : (key : Key) (marks : List Bool) → AreUsedNow key marks marks 0
used_none key marks = record {
  count = refl;
  on = λ i here. inl here;
  off = λ i here. (here, λ has. let low = has.1 in omega (arith, low));
}

-- one processor more
pub used_more : (key : Key) (old marks new : List Bool) (p n : ℕ) → slice_get key.cpus p ≡ Some n
    → AreUsedNow key old marks p → IsMarkedOnly marks new n → AreUsedNow key old new (p + 1)
used_more key old marks new p n number before only = record {
  count = only.count ∙ before.count;
  on = λ i here.
      elim (only.on i here) [
        | inl was ↦ elim (before.on i was) [
          | inl first ↦ inl first
          | inr has ↦ inr (has.0, (let low = has.1 in omega (arith, low)), has.2)
        ]
        | inr is ↦ inr (p, omega arith, number ∙ ap Some (sym is))
      ];
  off = λ i here.
      let was = only.off i here in
      let rest = before.off i was.0 in (
        rest.0,
        λ has. elim (cases_eq has.0 p) [
          | inl e ↦ was.1 (one_value (slice_get key.cpus p) i n (subst (λ (q : ℕ). slice_get key.cpus q ≡ Some i) e has.2) number)
          | inr ne ↦ rest.1 (has.0, (let low = has.1 in omega (arith, low, ne)), has.2)
        ],
      );
}

-- no state yet
pub unused : (v : SpaceValue) (cpus n : ℕ) (marks : List Bool) → marks ≡ replicate n false → n ≡ length v.parts
    → AreUsed v cpus 0 marks
unused v cpus n marks none size = record {
  count = ap length none ∙ length-replicate n false ∙ size;
  yes = λ i here. absurd (none_set n i (subst (λ (ms : List Bool). slice_get ms i ≡ Some true) none here));
  no = λ i here used. let low = used.low in omega (arith, low);
}

-- one state more
pub used_then : (v : SpaceValue) (cpus n : ℕ) (key : Key) (marks new : List Bool) → slice_get v.keys n ≡ Some key
    → AreUsed v cpus n marks → AreUsedNow key marks new cpus → AreUsed v cpus (n + 1) new
used_then v cpus n key marks new is before now = record {
  count = now.count ∙ before.count;
  yes = λ i here.
      elim (now.on i here) [
        | inl was ↦ let used = before.yes i was in record {
          state = used.state;
          low = (let low = used.low in omega (arith, low));
          key = used.key;
          is = used.is;
          cpu = used.cpu;
          few = used.few;
          part = used.part;
        }
        | inr has ↦ record { state = n; low = omega arith; key = key; is = is; cpu = has.0; few = has.1; part = has.2 }
      ];
  no = λ i here used.
      let was = now.off i here in
      elim (cases_eq used.state n) [
        | inl e ↦
            let same : used.key ≡ key = one_value (slice_get v.keys n) used.key key
            (subst (λ (k : ℕ). slice_get v.keys k ≡ Some used.key) e used.is) is in
            was.1 (used.cpu, used.few, subst (λ (k : Key). slice_get k.cpus used.cpu ≡ Some i) same used.part)
        | inr ne ↦ before.no i was.0 (record {
          state = used.state;
          low = (let low = used.low in omega (arith, low, ne));
          key = used.key;
          is = used.is;
          cpu = used.cpu;
          few = used.few;
          part = used.part;
        })
      ];
}

-- what a marked part makes, a state makes
pub made_by : (v : SpaceValue) (cpus : ℕ) (marks : List Bool) (row : Pc) → AreUsed v cpus (length v.keys) marks
    → MakesMarked v.parts marks row → IsMade v cpus row
made_by v cpus marks row are makes =
    let used = are.yes makes.0 makes.1.marked in
    record {
      state = used.state;
      there = used.low;
      makes = λ s has count.
          let few = used.few in
          let low : used.cpu < length s.cpus = omega (arith, few, count) in
          let part = part_there v used.state s used.key has (key_there v used.state s used.key has used.is) used.cpu makes.0 low
          used.part in
          let same : makes.1.part ≡ cpu_at s used.cpu = one_value (slice_get v.parts makes.0) makes.1.part (cpu_at s used.cpu)
          makes.1.is part in
          (used.cpu, low, subst (λ (x : CpuState). row_of x ≡ Some row) same makes.1.makes);
    }

-- and what none of them makes, no state makes
pub unmade_by : (v : SpaceValue) (cpus : ℕ) (marks : List Bool) (row : Pc) → AreUsed v cpus (length v.keys) marks
    → (MakesMarked v.parts marks row → ⊥) → IsUnmade v cpus row
unmade_by v cpus marks row are none k s has count makes =
    let few = makes.1 in
    let part = has.keeps.each makes.0 makes.1 in
    let low = slice_get_within v.parts part.0 (cpu_at s makes.0) part.2 in
    let size = are.count in
    elim (some_mark marks part.0 (omega (arith, low, size))) [
      | inl on ↦ none (part.0, record { marked = on; part = cpu_at s makes.0; is = part.2; makes = makes.2 })
      | inr off ↦ are.no part.0 off (record {
        state = k;
        low = slice_get_within v.keys k has.key has.is;
        key = has.key;
        is = has.is;
        cpu = makes.0;
        few = omega (arith, few, count);
        part = part.1;
      })
    ]

-- the mark behind the others is the last one
pub last_mark : (marks : List Bool) (mark : Bool) (i : ℕ) → i ≡ length marks → slice_get (marks ++ mark ∷ []) i ≡ Some mark
last_mark marks mark i is = subst (λ (k : ℕ). slice_get (marks ++ mark ∷ []) k ≡ Some mark) (sym is) (get-append_new marks mark)
