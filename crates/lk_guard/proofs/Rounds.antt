-- The jobs of a worker, one after another.
use Rattle.std.proofs.Common.{◌≡◌, ℕ, zero, suc, ◌+◌, ◌<◌, ◌≤◌, true, false, Bool, List, [], ◌∷◌, ◌++◌}
use Rattle.std.proofs.Common.{length, get_or, slice_get, Option, Some, take, drop, sym, refl, ap, ◌∙◌, subst, arith, length-append}
use Rattle.std.proofs.lemmas.Option.{get_or_from_slice_get}
use Rattle.std.proofs.lemmas.List.{append_assoc, append-nil, take_more, length-take-le}
use Rattle.std.specs.Prelude.{if◌then◌else◌}
use Rattle.lk_names.specs.Journal.{is_write}
use Rattle.lk_names.specs.declared.ledger.Job.{Job}
use Rattle.lk_names.specs.declared.ledger.Reply.{Reply}
use Rattle.lk_names.specs.declared.ledger.Seen.{Seen}
use Rattle.lk_domain.specs.Ledgers.{Ledger}
use Rattle.lk_guard.specs.Deeds.{Deed, wrote, saw, IsDeed, AreDeeds, after_deed, after_deeds}
use Rattle.lk_guard.specs.Deeds.{records_of, HasDone, Worked, writes_in, reads_in}
use Rattle.lk_guard.specs.Guards.{Guard}
use Rattle.lk_guard.specs.Reads.{HasRead}
use Rattle.lk_guard.specs.Writes.{entry, HasWritten}

-- one job was done

pub done_write : (h : Guard) (p n : ℕ) (job : Job) (reply : Reply) (g g' : Ledger) (rs : List Seen)
    → is_write job ≡ true → {before after : Option ℕ} → HasWritten h p n job reply g g' before after
    → HasDone h p n job g g' rs rs
done_write h p n job reply g g' rs writes w =
    record {
      deed = wrote w.place (entry p n job reply) w.first w.second;
      is = record { worker = refl; number = refl; task = refl; writes = writes; written = w.written };
      ledger = w.ledger;
      records = sym (append-nil rs);
    }

abbrev pub seen_record : ℕ → ℕ → ℕ → Job → Reply → Seen
seen_record p n v job reply =
    record { worker = p; number = n; version = v; job = job; reply = reply }

pub done_read : (h : Guard) (p n v : ℕ) (job : Job) (reply : Reply) (g g' : Ledger)
    (rs rs' : List Seen) → is_write job ≡ false → {before after : Option ℕ} → HasRead h p v job reply g g' before after
    → rs' ≡ rs ++ seen_record p n v job reply ∷ [] → HasDone h p n job g g' rs rs'
done_read h p n v job reply g g' rs rs' reads t e =
    record {
      deed = saw (seen_record p n v job reply) t.look;
      is = record { worker = refl; number = refl; task = refl; reads = reads; read = t.read };
      ledger = t.ledger;
      records = e;
    }

-- one deed more

after_more : (g : Ledger) (ds : List Deed) (d : Deed)
    → after_deeds g (ds ++ d ∷ []) ≡ after_deed (after_deeds g ds) d
after_more g [] d = refl
after_more g (x ∷ xs) d = after_more (after_deed g x) xs d

records_more : (ds es : List Deed) → records_of (ds ++ es) ≡ records_of ds ++ records_of es
records_more [] es = refl
records_more (wrote place e k l ∷ ds) es = records_more ds es
records_more (saw r k ∷ ds) es = ap (λ rs. r ∷ rs) (records_more ds es)

deeds_more : (h : Guard) (p n : ℕ) (js : List Job) (g : Ledger) (ds : List Deed) (j : Job) (d : Deed)
    → AreDeeds h p n js g ds → IsDeed h p (n + length js) j (after_deeds g ds) d
    → AreDeeds h p n (js ++ j ∷ []) g (ds ++ d ∷ [])
deeds_more h p n [] g [] j d are is =
    (subst (λ (m : ℕ). IsDeed h p m j g d) (let e : n + 0 ≡ n = omega arith in e) is, tt)
deeds_more h p n [] g (x ∷ xs) j d are is = absurd are
deeds_more h p n (y ∷ ys) g [] j d are is = absurd are
deeds_more h p n (y ∷ ys) g (x ∷ xs) j d are is = (
  are.0,
  deeds_more h p (n + 1) ys (after_deed g x) xs j d are.1
      (subst (λ (m : ℕ). IsDeed h p m j (after_deeds (after_deed g x) xs) d)
      (let e : n + suc (length ys) ≡ n + 1 + length ys = omega arith in e) is),
)

-- one job more
more_worked : (h : Guard) (p n : ℕ) (js : List Job) (j : Job) (g0 g1 g2 : Ledger)
    (rs0 rs1 rs2 : List Seen) → Worked h p js g0 g1 rs0 rs1 → n ≡ 1 + length js
    → HasDone h p n j g1 g2 rs1 rs2 → Worked h p (js ++ j ∷ []) g0 g2 rs0 rs2
more_worked h p n js j g0 g1 g2 rs0 rs1 rs2 w e t =
    record {
      deeds = w.deeds ++ t.deed ∷ [];
      are = deeds_more h p 1 js g0 w.deeds j t.deed w.are
          (subst (λ (m : ℕ). IsDeed h p m j (after_deeds g0 w.deeds) t.deed) e
          (subst (λ (g : Ledger). IsDeed h p n j g t.deed) w.ledger t.is));
      ledger = t.ledger ∙ (ap (λ (g : Ledger). after_deed g t.deed) w.ledger ∙ sym (after_more g0 w.deeds t.deed));
      records = t.records
          ∙ (ap (λ rs. rs ++ records_of (t.deed ∷ [])) w.records
          ∙ (append_assoc rs0 (records_of w.deeds) (records_of (t.deed ∷ []))
          ∙ ap (λ rs. rs0 ++ rs) (sym (records_more w.deeds (t.deed ∷ [])))));
    }

-- how many jobs are left

abbrev one_if : Bool → ℕ
one_if b = if b then 1 else 0

abbrev one_unless : Bool → ℕ
one_unless b = if b then 0 else 1

writes_drop : (js : List Job) (i : ℕ) (d : Job) → i < length js
    → writes_in (drop i js) ≡ one_if (is_write (get_or js i d)) + writes_in (drop (suc i) js)
writes_drop [] i d lt = absurd (omega arith)
writes_drop (j ∷ js) zero d lt = refl
writes_drop (j ∷ js) (suc i) d lt = writes_drop js i d (omega arith)

reads_drop : (js : List Job) (i : ℕ) (d : Job) → i < length js
    → reads_in (drop i js) ≡ one_unless (is_write (get_or js i d)) + reads_in (drop (suc i) js)
reads_drop [] i d lt = absurd (omega arith)
reads_drop (j ∷ js) zero d lt = refl
reads_drop (j ∷ js) (suc i) d lt = reads_drop js i d (omega arith)

deed_share : (h : Guard) (p n : ℕ) (job : Job) (g : Ledger) (d : Deed) → IsDeed h p n job g d
    → g.share ≤ (after_deed g d).share + one_if (is_write job)
deed_share h p n job g (wrote place e k l) is = omega (arith, ap one_if is.writes)
deed_share h p n job g (saw r k) is = omega arith

deed_records : (h : Guard) (p n : ℕ) (job : Job) (g : Ledger) (d : Deed) → IsDeed h p n job g d
    → length (records_of (d ∷ [])) ≡ one_unless (is_write job)
deed_records h p n job g (wrote place e k l) is = ap one_unless (sym is.writes)
deed_records h p n job g (saw r k) is = ap one_unless (sym is.reads)

-- the job at the place i is this one
module _ (js : List Job) (i : ℕ) (job : Job) (lt : i < length js)
    (here : slice_get js i ≡ Some job) where
  is_here : get_or js i job ≡ job
  is_here = get_or_from_slice_get js i job job here

  writes_now : writes_in (drop i js) ≡ one_if (is_write job) + writes_in (drop (suc i) js)
  writes_now = omega (arith, writes_drop js i job lt, ap (λ j. one_if (is_write j)) is_here)

  reads_now : reads_in (drop i js) ≡ one_unless (is_write job) + reads_in (drop (suc i) js)
  reads_now = omega (arith, reads_drop js i job lt, ap (λ j. one_unless (is_write j)) is_here)

  pub has_share : (share : ℕ) → writes_in (drop i js) ≤ share → is_write job ≡ true → 1 ≤ share
  has_share share le writes = omega (arith, le, writes_now, ap one_if writes)

  pub has_room : (have room : ℕ) → have + reads_in (drop i js) ≤ room → is_write job ≡ false
      → have < room
  has_room have room le reads = omega (arith, le, reads_now, ap one_unless reads)

  -- and it was done
  module _ (h : Guard) (p n : ℕ) (g g' : Ledger) (rs rs' : List Seen)
      (t : HasDone h p n job g g' rs rs') where
    pub next_share : writes_in (drop i js) ≤ g.share → writes_in (drop (i + 1) js) ≤ g'.share
    next_share le =
        omega (
          arith,
          le,
          writes_now,
          ap (λ (k : ℕ). writes_in (drop k js)) (let e : i + 1 ≡ suc i = omega arith in e),
          deed_share h p n job g t.deed t.is,
          ap (λ (l : Ledger). l.share) t.ledger,
        )

    pub next_room : (room : ℕ) → length rs + reads_in (drop i js) ≤ room
        → length rs' + reads_in (drop (i + 1) js) ≤ room
    next_room room le =
        omega (
          arith,
          le,
          reads_now,
          ap (λ (k : ℕ). reads_in (drop k js)) (let e : i + 1 ≡ suc i = omega arith in e),
          deed_records h p n job g t.deed t.is,
          ap length t.records,
          length-append rs (records_of (t.deed ∷ [])),
        )

    pub next_worked : (g0 : Ledger) (rs0 : List Seen) → n ≡ i + 1
        → Worked h p (take i js) g0 g rs0 rs → Worked h p (take (i + 1) js) g0 g' rs0 rs'
    next_worked g0 rs0 is w =
        let long : length (take i js) ≡ i = length-take-le i js (omega arith) in
        subst (λ (l : List Job). Worked h p l g0 g' rs0 rs')
        (sym (take_more js i job lt ∙ ap (λ (j : Job). take i js ++ j ∷ []) is_here))
        (more_worked h p n (take i js) job g0 g g' rs0 rs rs' w (omega arith) t)
