-- The node that a frame gets.
use Rattle.std.proofs.Common.{◌≡◌, ◌<◌, ◌+◌, ℕ, List, [], ◌∷◌, length, arith, inl, inr, refl, ap, sym, ◌∙◌}
use Rattle.std.proofs.lemmas.Bool.{cases_Bool}
use Rattle.std.specs.Prelude.{nat_lt}
use Rattle.lk_rows.specs.declared.parts.Pc.TheVariants.{G1}
use Rattle.lk_rows.specs.Machine.{Machine, set_counts, set_queued, set_cpu, set_top, queued_at, top_frame}
use Rattle.lk_rows.specs.Row.{Counter, counted, count_all, with_rest, entered}
use Rattle.lk_rows.specs.TopRow.{row_on, Queued}
use Rattle.lk_rows.specs.rows.Queue.{own_node, after_entry, entry_counts}
use Rattle.lk_queue.specs.Row.{HasOwn}

-- it is one of the four of its processor
pub own_is_there : (m : Machine) (p i : ℕ) → p < length m.cpus → HasOwn m (own_node p i)
own_is_there m p i there =
    elim (cases_Bool (nat_lt i 4)) [
      | inl few ↦ rw few (record { cpu = there; index = grind (arith, few) })
      | inr none ↦ rw none tt
    ]

-- counts are stored once
pub counted-is : (m : Machine) (cs : List Counter) → counted m cs ≡ set_counts m (count_all m.counts cs)
unfolding set_counts
counted-is m [] = refl
counted-is m (c ∷ cs) = refl

pub counts-set_queued : (m : Machine) (p i : ℕ) → (set_queued m p i).counts ≡ m.counts
unfolding set_queued set_cpu
counts-set_queued m p i = refl

-- the row that takes a node, in the order of its writes
pub enter_row : (m : Machine) (p : ℕ)
    → let i = queued_at m p in let me = own_node p i in let mode = m.setup.mode in
    set_top (with_rest (set_counts (set_queued m p (i + 1)) (count_all m.counts (entry_counts mode i))) me) p (entered (top_frame m p) me (after_entry mode me))
    ≡ (row_on m p (top_frame m p) G1 Queued).0
enter_row m p =
    let i = queued_at m p in
    let me = own_node p i in
    let mode = m.setup.mode in
    let n = set_queued m p (i + 1) in
    let cs = entry_counts mode i in
    ap (λ x. set_top (with_rest (set_counts n (count_all x cs)) me) p (entered (top_frame m p) me (after_entry mode me))) (sym (counts-set_queued m p (i + 1)))
    ∙ ap (λ x. set_top (with_rest x me) p (entered (top_frame m p) me (after_entry mode me))) (sym (counted-is n cs))
