-- A copy of a lawful setup is lawful.
use Rattle.std.proofs.Common.{arith, ℕ, zero, suc, ◌≡◌, ◌∙◌, ◌+◌, ◌++◌, List, [], ◌∷◌, Some, length}
use Rattle.std.proofs.Common.{map, ap, refl, sym, subst, ◌≤◌, ◌-◌, ◌==◌, if◌then◌else◌, slice_get}
use Rattle.std.proofs.Common.{slice_index_or, take}
use Rattle.lk_reach.proofs.Names.{length-map, ListOf, IsLawfulSetup, Op, Setup, tight, tight_lists}
use Rattle.lk_reach.proofs.Names.{tight_setup}
use Rattle.lk_names.specs.declared.names.Kind.{Kind}
use Rattle.lk_rows.specs.Programs.{IsLawfulProgram, handlers_of, program_at}
use Rattle.lk_reach.specs.Copies.{full}

-- one more is copied
next_suc : {A B : Type 0} (f : A → B) (xs : List A) (n : ℕ) (x : A) → slice_get xs n ≡ Some x
    → map f (take (suc n) xs) ≡ map f (take n xs) ++ f x ∷ []
next_suc f [] n x e = cc
next_suc f (y ∷ []) zero x e = ap (λ z. f z ∷ []) (one e)
  where
    one : Some y ≡ Some x → y ≡ x
    one h = cc
next_suc f (y ∷ z ∷ zs) zero x e = ap (λ w. f w ∷ []) (one e)
  where
    one : Some y ≡ Some x → y ≡ x
    one h = cc
next_suc f (y ∷ ys) (suc n) x e = ap (λ zs. f y ∷ zs) (next_suc f ys n x e)

pub copied_next : {A B : Type 0} (f : A → B) (xs : List A) (n : ℕ) (x : A) → slice_get xs n ≡ Some x
    → map f (take (n + 1) xs) ≡ map f (take n xs) ++ f x ∷ []
copied_next f xs n x e =
    let on : n + 1 ≡ suc n = omega arith in
    ap (λ k. map f (take k xs)) on ∙ next_suc f xs n x e

or_map : {A B : Type 0} (f : A → B) (xs : List A) (i : ℕ) (d : A)
    → slice_index_or (map f xs) i (f d) ≡ f (slice_index_or xs i d)
or_map f [] i d = refl
or_map f (x ∷ xs) zero d = refl
or_map f (x ∷ xs) (suc i) d = or_map f xs i d

tight_task : (z : Setup) (p : ℕ)
    → (slice_index_or (map tight z.progs.items) p (record { items = []; room = 0 })).items
    ≡ (slice_index_or z.progs.items p (record { items = []; room = 0 })).items
tight_task z p = ap (λ (l : ListOf Op). l.items) (or_map tight z.progs.items p (record { items = []; room = 0 }))

tight_handler : (z : Setup) (p n : ℕ)
    → (slice_index_or (slice_index_or (map tight_lists z.irqs.items) p (record { items = []; room = 0 })).items n
    (record { items = []; room = 0 })).items
    ≡ (slice_index_or (slice_index_or z.irqs.items p (record { items = []; room = 0 })).items n
    (record { items = []; room = 0 })).items
tight_handler z p n =
    ap (λ (l : ListOf (ListOf Op)). (slice_index_or l.items n (record { items = []; room = 0 })).items)
    (or_map tight_lists z.irqs.items p (record { items = []; room = 0 }))
    ∙ ap (λ (l : ListOf Op). l.items)
    (or_map tight (slice_index_or z.irqs.items p (record { items = []; room = 0 })).items n (record { items = []; room = 0 }))

tight_program : (z : Setup) (p h : ℕ) → program_at (tight_setup z) p h ≡ program_at z p h
unfolding program_at
tight_program z p h = λ i. if h == 0 then tight_task z p i else tight_handler z p (h - 1) i

tight_handlers : (z : Setup) (p : ℕ) → handlers_of (tight_setup z) p ≡ handlers_of z p
unfolding handlers_of
tight_handlers z p =
    ap (λ (l : ListOf (ListOf Op)). length l.items) (or_map tight_lists z.irqs.items p (record { items = []; room = 0 }))
    ∙ length-map (slice_index_or z.irqs.items p (record { items = []; room = 0 })).items tight

pub tight_lawful : (z : Setup) → IsLawfulSetup z → IsLawfulSetup (tight_setup z)
tight_lawful z x = record {
  some = x.some;
  few = x.few;
  locks = x.locks;
  threshold = x.threshold;
  spins = x.spins;
  progs = length-map z.progs.items tight ∙ x.progs;
  irqs = length-map z.irqs.items tight_lists ∙ x.irqs;
  handlers = λ p. subst (λ (n : ℕ). n ≤ 16) (sym (tight_handlers z p)) (x.handlers p);
  short = λ p h. subst (λ (ops : List Op). length ops ≤ 64) (sym (tight_program z p h)) (x.short p h);
  lawful = λ p h. subst (λ (ops : List Op). IsLawfulProgram z.locks.items ops) (sym (tight_program z p h)) (x.lawful p h);
}

-- equal parts are equal setups
pub same_setup : (z : Setup) (sockets : ListOf ℕ) (locks : ListOf Kind) (progs : ListOf (ListOf Op))
    (irqs : ListOf (ListOf (ListOf Op))) → sockets ≡ tight z.topology.sockets → locks ≡ tight z.locks
    → progs ≡ tight_lists z.progs → irqs ≡ full (map tight_lists z.irqs.items)
    → record z { topology = record { sockets = sockets }; locks = locks; progs = progs; irqs = irqs } ≡ tight_setup z
same_setup z sockets locks progs irqs a b c d =
    λ i. record z { topology = record { sockets = a i }; locks = b i; progs = c i; irqs = d i }
