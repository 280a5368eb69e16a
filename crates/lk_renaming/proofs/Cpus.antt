-- What is read of a renamed machine, and what is written to a processor of it.
use Rattle.std.proofs.Common.{◌≡◌, ℕ, ◌<◌, ◌≤◌, ◌+◌, zero, suc, length, get_or, set, inl, inr, ap}
use Rattle.std.proofs.Common.{refl, sym, ◌∙◌, subst, arith}
use Rattle.std.proofs.lemmas.Bool.{cases_lt, cases_eq}
use Rattle.std.proofs.lemmas.List.{length-set, get_or_past, get_or-set_same, get_or-set_other}
use Rattle.std.proofs.lemmas.List.{ext_get_or}
use Rattle.lk_renaming.proofs.Names.{CpuState, Machine, no_cpu, renamed, renamed_cpu, renamed_cpus}
use Rattle.lk_renaming.proofs.Names.{IsRenaming, Renaming}
use Rattle.lk_rows.specs.Machine.{cpu_at, set_cpu}

-- the numbers of a renaming
module _ (r : Renaming) (n : ℕ) (is : IsRenaming n r) where
  pub back_others : (q : ℕ) → n ≤ q → r.back q ≡ q
  back_others q high = ap (λ k. r.back k) (sym (is.others q high)) ∙ is.undone q

  -- one of them is renamed to one of them
  pub comes_low : (p : ℕ) → r.to p < n → p < n
  comes_low p low =
      elim (cases_lt p n) [
        | inl below ↦ below
        | inr high ↦ subst (λ (k : ℕ). k < n) (is.others p high) low
      ]

-- the list of renamed processors
module _ (r : Renaming) (m : Machine) where
  pub cpus_long : (q n : ℕ) → length (renamed_cpus r m q n) ≡ n
  cpus_long q zero = refl
  cpus_long q (suc n) = ap suc (cpus_long (suc q) n)

  pub cpus_each : (q n i : ℕ) → i < n
      → get_or (renamed_cpus r m q n) i no_cpu ≡ renamed_cpu r (cpu_at m (r.back (q + i)))
  cpus_each q zero i low = absurd (omega arith)
  cpus_each q (suc n) zero low =
      let e : q ≡ q + 0 = omega arith in ap (λ k. renamed_cpu r (cpu_at m (r.back k))) e
  cpus_each q (suc n) (suc i) low =
      let e : suc q + i ≡ q + suc i = omega arith in
      cpus_each (suc q) n i (omega arith) ∙ ap (λ k. renamed_cpu r (cpu_at m (r.back k))) e

-- the processors of a machine
module _ (r : Renaming) (m : Machine) (is : IsRenaming (length m.cpus) r) where
  pub cpus-renamed : length (renamed r m).cpus ≡ length m.cpus
  cpus-renamed = cpus_long r m 0 (length m.cpus)

  pub cpu-back : (q : ℕ) → cpu_at (renamed r m) q ≡ renamed_cpu r (cpu_at m (r.back q))
  unfolding cpu_at
  cpu-back q =
      elim (cases_lt q (length m.cpus)) [
        | inl low ↦
            let e : 0 + q ≡ q = omega arith in
            cpus_each r m 0 (length m.cpus) q low ∙ ap (λ k. renamed_cpu r (cpu_at m (r.back k))) e
        | inr high ↦
            get_or_past (renamed r m).cpus q no_cpu (subst (λ (k : ℕ). k ≤ q) (sym cpus-renamed) high)
            ∙ sym (ap (λ k. renamed_cpu r (get_or m.cpus k no_cpu)) (back_others r (length m.cpus) is q high)
            ∙ ap (λ c. renamed_cpu r c) (get_or_past m.cpus q no_cpu high))
      ]

  pub cpu-renamed : (p : ℕ) → cpu_at (renamed r m) (r.to p) ≡ renamed_cpu r (cpu_at m p)
  cpu-renamed p = cpu-back (r.to p) ∙ ap (λ k. renamed_cpu r (cpu_at m k)) (is.undone p)

  module _ (p : ℕ) (c : CpuState) where
    abbrev put : Machine
    put = set_cpu m p c

    -- each processor after the write
    each : (k : ℕ) → k < length m.cpus
        → get_or (set (renamed r m).cpus (r.to p) (renamed_cpu r c)) k no_cpu ≡ renamed_cpu r (cpu_at put (r.back k))
    unfolding cpu_at set_cpu
    each k low =
        elim (cases_eq k (r.to p)) [
          | inl e ↦
              let here : r.to p < length m.cpus = subst (λ (j : ℕ). j < length m.cpus) e low in
              let came_from : r.back k ≡ p = ap (λ j. r.back j) e ∙ is.undone p in
              ap (λ j. get_or (set (renamed r m).cpus (r.to p) (renamed_cpu r c)) j no_cpu) e
              ∙ get_or-set_same (renamed r m).cpus (r.to p) (renamed_cpu r c) no_cpu
              (subst (λ (j : ℕ). r.to p < j) (sym cpus-renamed) here)
              ∙ sym (ap (λ j. renamed_cpu r (get_or (set m.cpus p c) j no_cpu)) came_from
              ∙ ap (λ d. renamed_cpu r d) (get_or-set_same m.cpus p c no_cpu (comes_low r (length m.cpus) is p here)))
          | inr ne ↦
              get_or-set_other (renamed r m).cpus (r.to p) k (renamed_cpu r c) no_cpu ne
              ∙ cpu-back k
              ∙ sym (ap (λ d. renamed_cpu r d) (get_or-set_other m.cpus p (r.back k) c no_cpu
              (λ e. ne (sym (is.redone k) ∙ ap (λ j. r.to j) e))))
        ]

    pub put-renamed : set_cpu (renamed r m) (r.to p) (renamed_cpu r c) ≡ renamed r put
    unfolding set_cpu
    put-renamed = (λ i. record (renamed r m) { cpus = all i })
      where
        long : length (set (renamed r m).cpus (r.to p) (renamed_cpu r c)) ≡ length m.cpus
        long = length-set (renamed r m).cpus (r.to p) (renamed_cpu r c) ∙ cpus-renamed

        more : length (renamed r put).cpus ≡ length m.cpus
        more = cpus_long r put 0 (length put.cpus) ∙ length-set m.cpus p c

        last : (k : ℕ) → k < length m.cpus
            → get_or (renamed r put).cpus k no_cpu ≡ renamed_cpu r (cpu_at put (r.back k))
        last k low =
            let e : 0 + k ≡ k = omega arith in
            cpus_each r put 0 (length put.cpus) k (subst (λ (j : ℕ). k < j) (sym (length-set m.cpus p c)) low)
            ∙ ap (λ j. renamed_cpu r (cpu_at put (r.back j))) e

        all : set (renamed r m).cpus (r.to p) (renamed_cpu r c) ≡ (renamed r put).cpus
        all =
            ext_get_or no_cpu (set (renamed r m).cpus (r.to p) (renamed_cpu r c)) (renamed r put).cpus (long ∙ sym more)
            (λ k lt. let low = subst (λ (j : ℕ). k < j) long lt in each k low ∙ sym (last k low))
