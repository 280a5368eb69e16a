-- A release whose first try met another word than that of a lock for which nobody waits.
use Rattle.std.proofs.Common.{◌≡◌, ◌≢◌, ◌∙◌, ◌%◌, ℕ, inl, inr, None, refl, sym, ap, subst, arith}
use Rattle.lk_pvdomain.proofs.Names.{Seat, NodeName, U3, Unlock, halts, Frees, lock_name, Slot, Any}
use Rattle.lk_pvdomain.proofs.Names.{Acts, MadeBy, Domain, Plan, View, Ended, Start, first_of}
use Rattle.lk_pvdomain.proofs.Names.{TriedBy, release_fails, tries_release}
use Rattle.lk_pvdomain.proofs.Fails.{tried, release_failed, release_again}
use Rattle.lk_pvdomain.proofs.ways.Arrives.{first_acts, is_spin}
use Rattle.lk_pvdomain.proofs.ways.Frees.{first_tries, u2_frees, u2_kicks, u2_seeks}
use Rattle.lk_pvdomain.specs.{PvCalls.{HasTried, MayFree}, PvPaths.{At, Rests}}
use Rattle.lk_pvdomain.specs.PvReleases.{kicked_in}

module _ {d : Domain} {l : ℕ} {own : NodeName} {s : Start} {met : ℕ} {b : Seat Slot View} (h : HasTried d l own s met b) where
  -- where the byte was not held, the first try is the row
  pub seeks : met % 256 ≢ 1 → At d Unlock l own (first_of Unlock l h.old) U3 Any b
  seeks ne =
      u2_seeks h.same h.may.rests h.may.low
      (tried release_fails Unlock l 1 h.old.me met b.me h.tried (inr (release_failed _ h.tried.found met h.tried.word ne))) ne

  -- else it is nothing
  pub stays : met ≢ 1 → met % 256 ≡ 1 → b.me ≡ h.old.me
  stays ne e = h.tried.stays ne (release_again _ h.tried.found met h.tried.word e)

  pub began : {c : Seat Slot View} → Ended d Unlock l own (first_of Unlock l h.old) Frees c → Ended d Unlock l own s Frees c
  began {c} e = subst (λ x. Ended d Unlock l own x Frees c) (sym h.start) e

  module _ {n : ℕ} {c : Seat Slot View} (ne : met ≢ 1) (e : met % 256 ≡ 1) (same : (c.table_id ≡ b.table_id) × (c.id ≡ b.id))
      (k : MadeBy Unlock l b.me n c.me) where
    made : MadeBy Unlock l h.old.me n c.me
    made = subst (λ m. MadeBy Unlock l m n c.me) (stays ne e) k

    pub frees_then : n % 256 ≡ 1 → Ended d Unlock l own (first_of Unlock l h.old) Frees c
    frees_then f = u2_frees (same.0 ∙ h.same.0, same.1 ∙ h.same.1) h.may.rests h.may.low made f

    pub kicks_then : n % 256 ≡ 1 → kicked_in c.me.0.calls.last ≡ None
    kicks_then f = u2_kicks (same.0 ∙ h.same.0, same.1 ∙ h.same.1) h.may.rests h.may.low made f

    pub seeks_then : n % 256 ≢ 1 → At d Unlock l own (first_of Unlock l h.old) U3 Any c
    seeks_then f = u2_seeks (same.0 ∙ h.same.0, same.1 ∙ h.same.1) h.may.rests h.may.low made f

-- what a release asks that has made no row yet, and what its first try has made of it
module _ {d : Domain} {l : ℕ} {own : NodeName} {a : Seat Slot View} (m : MayFree d l own a) where
  pub first_tries_on : Acts tries_release a.me.0 Unlock l
  first_tries_on =
      let r = m.rests in
      first_acts r Unlock l a.id m.low tries_release
      (first_tries a.me.0.who.plan.mode (ap (λ (k : Plan). halts k.mode) r.of.plan ∙ r.of.halting)) m.held
      (is_spin r Unlock l a.id m.low)

  pub with_rests : {node : NodeName} → Rests d node a → MayFree d l node a
  with_rests r = record { rests = r; low = m.low; held = m.held; home = m.home; value = m.value }

  module _ {met : ℕ} {b : Seat Slot View} (same : (b.table_id ≡ a.table_id) × (b.id ≡ a.id))
      (t : TriedBy release_fails Unlock (lock_name l) 1 a.me met b.me) where
    -- where it met another word
    unfoldable pub has_tried : HasTried d l own (first_of Unlock l a) met b
    has_tried = record { old = a; start = refl; may = m; same = same; tried = t }

    -- and where it met the word of a lock for which nobody waits
    pub frees : met ≡ 1 → Ended d Unlock l own (first_of Unlock l a) Frees b
    frees e = u2_frees same m.rests m.low (tried release_fails Unlock l 1 a.me met b.me t (inl e)) (omega (arith, e))

    pub kicks_none : met ≡ 1 → kicked_in b.me.0.calls.last ≡ None
    kicks_none e = u2_kicks same m.rests m.low (tried release_fails Unlock l 1 a.me met b.me t (inl e)) (omega (arith, e))
