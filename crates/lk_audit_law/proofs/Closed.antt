-- What an auditor makes of the closing lines.
use Rattle.std.proofs.Common.{true, false, ◌≡◌, ◌≤◌, ◌<◌, ◌+◌, ◌-◌, ◌==◌, ◌++◌, ◌^◌, ℕ, suc, List, [], ◌∷◌, Ok, length, nat_lt, nat_le, refl, sym, ap, subst, ◌∙◌, arith, append_assoc, append-nil, codes, decimal}
use Rattle.std.proofs.lemmas.Bool.Decides.{nat_tests}
use Rattle.std.proofs.lemmas.List.{length-append}
use Rattle.std.specs.Str.{bytes_eq}
use Rattle.std.specs.List.{flat_map}
use Rattle.lk_rows.specs.Run.{Occurrence}
use Rattle.lk_machine.specs.Ready.{CountsWithin}
use Rattle.lk_rows.specs.declared.parts.Counts.{Counts}
use Rattle.lk_text.specs.declared.reader.TheConstants.{MAX_INPUT}
use Rattle.lk_forms.specs.Grammar.{Reading, has_go}
use Rattle.lk_forms.specs.Texts.{end_text, count_name, count_at, count_text, closing}
use Rattle.lk_forms.specs.declared.limits.TheConstants.{MAX_ACTS}
use Rattle.lk_stream.specs.Grammar.{Place}
use Rattle.lk_audit_forms.specs.Parts.{spaced}
use Rattle.lk_audit_forms.specs.Closing.{closing_lines, open_words, line_told, count_line, count_words}
use Rattle.lk_audit_forms.specs.Parts.{two_words}
use Rattle.lk_audit_forms.specs.Grammar.{Said, last_act, said_on, read}
use Rattle.lk_audit_forms.specs.declared.answers.Told.TheVariants as told
use Rattle.lk_audit_forms.proofs.Marks.{lacks, parts_all, decimal_lacks}
use Rattle.lk_audit_forms.proofs.Numbers.{plain_printed}
use Rattle.lk_audit_law.proofs.Plain.{IsPlain, both, widen, word, number}
use Rattle.lk_audit_law.proofs.Behind.{Passes, nothing_more, and_on, one_line, open_said}

-- two words with a space between them
two_cut : (a b : List ℕ) → lacks 32 a ≡ true → lacks 32 b ≡ true → spaced (a ++ (codes " " ++ b)) ≡ a ∷ b ∷ []
two_cut a b ha hb =
    ap (λ l. spaced (a ++ 32 ∷ l)) (sym (append-nil b)) ∙ parts_all 32 a (b ∷ []) ha (rw hb refl)

-- with so many closing lines
abbrev pub closed_said : Reading → List Occurrence → ℕ → Said
closed_said r h n = record { header = r; history = h; closed = n }

end_read : (r : Reading) (h : List Occurrence) (n : ℕ) → has_go r ≡ true → last_act h ≤ n → n ≤ MAX_ACTS
    → read (open_said r h) (codes "end" ++ (codes " " ++ decimal n)) ≡ Ok (closed_said r h 1)
end_read r h n gone low high =
    let small : n < 2 ^ 64 = omega (arith, high) in
    let cut = two_cut (codes "end") (decimal n) refl (decimal_lacks n 32 small (omega arith)) in
    let least : nat_le (last_act h) n ≡ true = grind (arith, nat_tests, low) in
    let most : nat_le n MAX_ACTS ≡ true = grind (arith, nat_tests, high) in
    let line = codes "end" ++ (codes " " ++ decimal n) in
    let says : line_told r.setup (last_act h) 0 line ≡ Ok told.End =
    ap (open_words r.setup (last_act h) line) cut ∙ rw (plain_printed n small, least, most) refl in
    rw gone (ap (said_on (open_said r h)) says)

pub end_passes : (p : Place Said) (r : Reading) (h : List Occurrence) (n : ℕ) → has_go r ≡ true → p.said ≡ open_said r h
    → last_act h ≤ n → n ≤ MAX_ACTS → p.bytes + length (end_text n) ≤ MAX_INPUT → Passes p (end_text n) (closed_said r h 1)
end_passes p r h n gone is low high room =
    let small : n < 2 ^ 64 = omega (arith, high) in
    let line = codes "end" ++ (codes " " ++ decimal n) in
    let long = length-append line (codes "\n") in
    one_line p line (closed_said r h 1)
    (widen 4000 (omega arith) (both (word (codes "end") refl refl) (both (word (codes " ") refl refl) (number n small))))
    (omega (arith, room, long)) (ap (λ x. read x line) is ∙ end_read r h n gone low high)

-- what is seen of the name of a count, and of the count
pub record IsCount (which : ℕ) : Type 0 where
  pub plain : IsPlain 16 (count_name which)
  pub lack : lacks 32 (count_name which) ≡ true
  pub same : bytes_eq (count_name which) (count_name which) ≡ true
  pub within : (n : ℕ) (c : Counts) → CountsWithin n c → count_at c which ≤ n

count_read : (r : Reading) (h : List Occurrence) (which k : ℕ) → has_go r ≡ true → IsCount which → which < 10 → k < 2 ^ 64
    → read (closed_said r h (suc which)) (count_name which ++ (codes " " ++ decimal k)) ≡ Ok (closed_said r h (suc which + 1))
count_read r h which k gone is few small =
    let line = count_name which ++ (codes " " ++ decimal k) in
    let cut = two_cut (count_name which) (decimal k) is.lack (decimal_lacks k 32 small (omega arith)) in
    let none : (suc which == 0) ≡ false = grind (arith, nat_tests) in
    let less : suc which - 1 ≡ which = omega arith in
    let early : nat_lt (suc which) closing_lines ≡ true = grind (arith, nat_tests, few) in
    let counted : count_line which line ≡ Ok told.Count =
    ap (λ ws. count_words which (two_words ws)) cut ∙ rw (is.same, plain_printed k small) refl in
    let says : line_told r.setup (last_act h) (suc which) line ≡ Ok told.Count = rw (none, early, less) counted in
    rw gone (ap (said_on (closed_said r h (suc which))) says)

count_passes : (p : Place Said) (r : Reading) (h : List Occurrence) (c : Counts) (which : ℕ) → has_go r ≡ true → IsCount which
    → which < 10 → CountsWithin (2 ^ 64 - 1) c → p.said ≡ closed_said r h (suc which)
    → p.bytes + length (count_text c which) ≤ MAX_INPUT → Passes p (count_text c which) (closed_said r h (suc which + 1))
count_passes p r h c which gone is few within at room =
    let most = is.within (2 ^ 64 - 1) c within in
    let k = count_at c which in
    let small : k < 2 ^ 64 = omega (arith, most) in
    let line = count_name which ++ (codes " " ++ decimal k) in
    let whole : line ++ codes "\n" ≡ count_text c which = append_assoc (count_name which) (32 ∷ decimal k) (codes "\n") in
    let long = length-append line (codes "\n") in
    subst (λ t. Passes p t (closed_said r h (suc which + 1))) whole
    (one_line p line (closed_said r h (suc which + 1))
    (widen 4000 (omega arith) (both is.plain (both (word (codes " ") refl refl) (number k small))))
    (omega (arith, room, long, ap length whole)) (ap (λ x. read x line) at ∙ count_read r h which k gone is few small))

-- these are the counts from that one on
abbrev AreFrom : ℕ → List ℕ → Type 0
AreFrom n [] = n ≡ 10
AreFrom n (w ∷ ws) = (w ≡ n) × IsCount n × (n < 10) × AreFrom (suc n) ws

counts_pass : (ws : List ℕ) (n : ℕ) (p : Place Said) (r : Reading) (h : List Occurrence) (c : Counts) → has_go r ≡ true
    → AreFrom n ws → CountsWithin (2 ^ 64 - 1) c → p.said ≡ closed_said r h (suc n)
    → p.bytes + length (flat_map (λ which. count_text c which) ws) ≤ MAX_INPUT
    → Passes p (flat_map (λ which. count_text c which) ws) (closed_said r h 11)
counts_pass [] n p r h c gone from within at room =
    subst (Passes p []) (at ∙ ap (λ k. closed_said r h (suc k)) from) (nothing_more p)
counts_pass (w ∷ ws) n p r h c gone from within at room =
    let rest = flat_map (λ which. count_text c which) ws in
    let same : count_text c w ≡ count_text c n = ap (count_text c) from.0 in
    let all = length-append (count_text c w) rest in
    let one = count_passes p r h c n gone from.1 from.2 within at (omega (arith, room, all, ap length same)) in
    and_on p (count_text c w) rest (closed_said r h (suc n + 1)) (closed_said r h 11)
    (subst (λ t. Passes p t (closed_said r h (suc n + 1))) (sym same) one)
    (λ q said bytes. counts_pass ws (suc n) q r h c gone from.3 within (said ∙ ap (closed_said r h) (omega arith)) (omega (arith, room, all, bytes)))

ten : AreFrom 0 (0 ∷ 1 ∷ 2 ∷ 3 ∷ 4 ∷ 5 ∷ 6 ∷ 7 ∷ 8 ∷ 9 ∷ [])
ten = (
  refl,
  record { plain = word (count_name 0) refl refl; lack = refl; same = refl; within = λ n c w. w.lock_pending },
  omega arith,
  (
    refl,
    record { plain = word (count_name 1) refl refl; lack = refl; same = refl; within = λ n c w. w.lock_slowpath },
    omega arith,
    (
      refl,
      record { plain = word (count_name 2) refl refl; lack = refl; same = refl; within = λ n c w. w.lock_use_node2 },
      omega arith,
      (
        refl,
        record { plain = word (count_name 3) refl refl; lack = refl; same = refl; within = λ n c w. w.lock_use_node3 },
        omega arith,
        (
          refl,
          record { plain = word (count_name 4) refl refl; lack = refl; same = refl; within = λ n c w. w.lock_use_node4 },
          omega arith,
          (
            refl,
            record { plain = word (count_name 5) refl refl; lack = refl; same = refl; within = λ n c w. w.lock_no_node },
            omega arith,
            (
              refl,
              record { plain = word (count_name 6) refl refl; lack = refl; same = refl; within = λ n c w. w.pv_lock_stealing },
              omega arith,
              (
                refl,
                record { plain = word (count_name 7) refl refl; lack = refl; same = refl; within = λ n c w. w.pv_wait_node },
                omega arith,
                (
                  refl,
                  record { plain = word (count_name 8) refl refl; lack = refl; same = refl; within = λ n c w. w.pv_wait_head },
                  omega arith,
                  (
                    refl,
                    record { plain = word (count_name 9) refl refl; lack = refl; same = refl; within = λ n c w. w.pv_kick_unlock },
                    omega arith,
                    refl,
                  ),
                ),
              ),
            ),
          ),
        ),
      ),
    ),
  ),
)

-- all eleven closing lines
pub closing_passes : (p : Place Said) (r : Reading) (h : List Occurrence) (n : ℕ) (c : Counts) → has_go r ≡ true
    → p.said ≡ open_said r h → last_act h ≤ n → n ≤ MAX_ACTS → CountsWithin (2 ^ 64 - 1) c
    → p.bytes + length (closing n c) ≤ MAX_INPUT → Passes p (closing n c) (closed_said r h 11)
closing_passes p r h n c gone at low high within room =
    let counts = flat_map (λ which. count_text c which) (0 ∷ 1 ∷ 2 ∷ 3 ∷ 4 ∷ 5 ∷ 6 ∷ 7 ∷ 8 ∷ 9 ∷ []) in
    let all = length-append (end_text n) counts in
    and_on p (end_text n) counts (closed_said r h 1) (closed_said r h 11)
    (end_passes p r h n gone at low high (omega (arith, room, all)))
    (λ q said bytes. counts_pass (0 ∷ 1 ∷ 2 ∷ 3 ∷ 4 ∷ 5 ∷ 6 ∷ 7 ∷ 8 ∷ 9 ∷ []) 0 q r h c gone ten within said (omega (arith, room, all, bytes)))
