-- What the last of a queue asks, who leaves it by one exchange of the whole word.
use Rattle.std.proofs.Common.{◌≡◌, inl, inr, ℕ, ◌+◌, ◌<◌, ◌≤◌, Some, None, true, false, eqb, refl}
use Rattle.std.proofs.Common.{sym, ap, ◌∙◌, subst, ◌&&◌, not}
use Rattle.std.specs.Prelude.{unwrap_or}
use Rattle.lk_pvdomain.proofs.Names.{cases_Bool, Allows, Me, either, IsPackable, Fields, Layout}
use Rattle.lk_pvdomain.proofs.Names.{Held, NodeName, LockName, Mode, is_node, node_of, target}
use Rattle.lk_pvdomain.proofs.Names.{Frame, Pc, E13, Verb, is_held, acting_is, MayFree, Slot}
use Rattle.lk_pvdomain.proofs.Names.{layout_in, locks_of, WentBy, Stand, IsNumbered, Plan, View}
use Rattle.lk_word.specs.SpinWord.{packed, tail_number}
use Rattle.lk_rows.specs.rows.Cna.{is_last}
use Rattle.lk_domain.proofs.queue.Pending.{last_word, last_is, last_test}
use Rattle.lk_domain.proofs.{words.Numbers.held_packed, words.OnWords.{OnWord, word_stores}}
use Rattle.lk_domain.proofs.{words.Onward.{acts_at, asks_on}, words.Uses.either_frees}
use Rattle.lk_domain.specs.Words.{word_at}
use Rattle.lk_pvdomain.specs.{PvPlays.AtLast, PvRows.quits}

quit_on : (c : Pc) (f : Frame) → quits c ≡ true → OnWord (target c f)
quit_on E13 f h = tt
quit_on _ f h = cc h

-- it frees nothing
quit_frees : (c : Pc) → quits c ≡ true → MayFree c → ⊥
quit_frees E13 h t = either_frees (is_last t.2 (t.0.word t.2.lock)) _ _ (λ e. cc e) (λ e. cc e) t.3
quit_frees _ h t = cc h

-- an exchange of the word of a held lock with the own node as its tail for 1 leaves a held lock without one
quit : (layout : Layout) (mode : Mode) (c : Pc) (f : Frame) (y : Fields) (n : NodeName) → quits c ≡ true
    → IsPackable layout y → (n.cpu ≤ 16382) × (n.index ≤ 3) → node_of f.me ≡ n
    → either (eqb (packed layout y) (tail_number layout (Some n) + 1)) 1 (packed layout y)
    ≡ packed layout (unwrap_or (word_stores mode c f (target c f) y) y)
quit layout mode E13 f y n h fits near own =
    let e = last_test layout f y n fits near own in
    elim (cases_Bool (is_last f y)) [
      | inl d ↦
          let is : y ≡ last_word n = last_is y.locked y.pending y.tail n
          (subst (λ (z : NodeName). (is_held y.locked && not y.pending && is_node y.tail z) ≡ true) own d) in
          let new : record y { tail = None } ≡ record { locked = Held; pending = false; tail = None } =
          (λ i. record (is i) { tail = None }) in
          ap (λ b. either b 1 (packed layout y)) (e ∙ d)
          ∙ (sym (held_packed layout) ∙ (ap (packed layout) (sym new) ∙ rw (d, word_stores) refl))
      | inr d ↦ ap (λ b. either b 1 (packed layout y)) (e ∙ d) ∙ rw (d, word_stores) refl
    ]
quit layout mode _ f y n h fits near own = cc h

module _ (k plan : Plan) (slots id : ℕ) (m : Me Slot View) (number : IsNumbered m.0) (verb : Verb)
    (n : LockName) (i : ℕ) (same : k ≡ plan) (near : n.index < locks_of plan) (at : i ≡ word_at n) where
  pub quit_asks : (own : NodeName) → (own.cpu ≤ 16382) × (own.index ≤ 3) → (last : ℕ)
      → last ≡ tail_number (layout_in plan) (Some own) + 1 → AtLast own n verb m.0
      → Allows (Stand k) slots id m i (λ x. either (eqb x last) 1 x) (WentBy m)
  quit_asks own small last is h =
      asks_on k plan slots id m number verb n i same near at quits
      (acts_at quits m verb n (record { row = E13; is = refl; stands = h.stands })) (λ c q f. quit_on c f q)
      (λ may. absurd (quit_frees E13 refl may)) (acting_is m.0.calls verb n E13 h.stands m.0.who.plan.mode) (λ x. either (eqb x last) 1 x)
      (λ mode y packs known. ap (λ (t : ℕ). either (eqb (packed (layout_in plan) y) t) 1 (packed (layout_in plan) y)) is
      ∙ quit (layout_in plan) mode E13 h.stands.frame y own refl packs small (ap node_of h.me))
