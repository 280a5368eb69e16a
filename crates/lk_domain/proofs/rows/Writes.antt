-- A step that makes the row of a call and writes the word that the row is on: the others stay as they are.
use Rattle.std.proofs.Common.{◌≡◌, ◌≢◌, inl, ℕ, List, set, Some, Bool, false, sym, ap, ◌∙◌}
use Rattle.lk_domain.proofs.Names.{State, get_elem?, some, NodeName, LockName, Waiter, Target}
use Rattle.lk_domain.proofs.Names.{target, Frame, Node, Pc, Verb, Met, RowDone, enters, met_in}
use Rattle.lk_domain.proofs.Names.{stored_in, World, Begins, StandsOn, acting, plain, row_of}
use Rattle.lk_domain.proofs.Names.{terms_of, Runs, node_name, waiter, IsPlace, OfNode, Place}
use Rattle.lk_domain.proofs.Names.{number_of, place_at, with_mark, Part, Plan, View}
use mathlib.Core.Option.{Option as Maybe}
use Rattle.lk_domain.proofs.rows.Changes.{Changes, IsAt, row_changes}
use Rattle.lk_domain.proofs.{rows.Kept.{Halting, halting_same, counted_after}, rows.Poised.Poised}
use Rattle.lk_domain.proofs.{rows.Sights.IsSeen, rows.Users.{IsTrue, bare_me, kept_marks}}
use Rattle.lk_domain.proofs.words.Written.{written, roll_stays, same_numbers}
use Rattle.lk_domain.specs.declared.part.Part.TheVariants as part
use Rattle.lk_domain.proofs.rows.Lands as lands

module _ (k : Plan) {S : Type 0} (s : State S View) (st : Runs k s) (id : ℕ) (v : View)
    (me : get_elem? s.views id ≡ some v) (p : ℕ) (is : v.who.number ≡ Some p) (verb : Verb)
    (l : LockName) (pc : Pc) (asks : Begins k v.calls verb l.index)
    (acts : StandsOn (acting k.mode v.calls verb l.index) verb l pc)
    (unseen : IsSeen pc (target pc acts.frame) (acting k.mode v.calls verb l.index).runs)
    (a : Place) (on : IsAt acts.frame (target pc acts.frame) a)
    (bare : enters (lands.o k s st id v me p is verb l pc asks acts unseen).leads ≡ false) where
  abbrev f : Frame
  f = acts.frame

  abbrev w : Waiter
  w = waiter p f.ctx

  abbrev t : Target
  t = target pc f

  abbrev at : Poised st.world p (acting k.mode v.calls verb l.index)
  at = lands.at k s st id v me p is verb l pc asks acts unseen

  abbrev m : World
  m = at.acted.world

  abbrev n : World
  n = lands.n k s st id v me p is verb l pc asks acts unseen

  done : RowDone m n w f pc t (lands.o k s st id v me p is verb l pc asks acts unseen)
  done = lands.row_done k s st id v me p is verb l pc asks acts unseen

  changed : Changes k m (stored_in m w f pc t) a
  changed = row_changes k m w f pc t a on

  pub row_numbers : (y : Place) → number_of k n st.pairs y ≡ number_of k (stored_in m w f pc t) st.pairs y
  row_numbers y = same_numbers k st.pairs (stored_in m w f pc t) n done.word done.rw (done.node bare) done.kicked y

  -- the numbers are as they were before the step, but for that of the word
  pub row_else : (y : Place) → y ≢ a → number_of k n st.pairs y ≡ number_of k st.world st.pairs y
  row_else y ne =
      let same = at.acted.same in
      row_numbers y ∙ (changed.numbers st.pairs y ne
      ∙ same_numbers k st.pairs st.world m same.word same.rw same.node same.kicked y)

  pub beside : Halting k s st n st.pairs id p
  beside =
      let same = at.acted.same in
      halting_same k s st n id p (done.entry ∙ (changed.entry ∙ same.entry))
      (λ q ne. ap (λ (g : ℕ → Bool). g q) (done.halted ∙ (changed.halted ∙ same.halted)))

  -- the rule after it, where the word is none of a node and gets what the row stores
  pub row_step : IsPlace k a → ((b : NodeName) (r : Part) → OfNode b r ≢ a) → (y : Met) → plain y ≡ met_in m w f t
      → IsTrue m pc y → (i : ℕ) → i ≡ with_mark st.marks a (number_of k (stored_in m w f pc t) st.pairs a)
      → (u : View) → u.who ≡ v.who → u.calls ≡ row_of (terms_of k) p (acting k.mode v.calls verb l.index) y
      → (homes : List (Maybe S))
      → Runs k {S = S} (record { words = set s.words (place_at k a) i; homes = homes; views = set s.views id u })
  row_step near off y meets true_ i writes u who calls homes =
      lands.lands k s st id v me p is verb l pc asks acts unseen y meets true_
      (λ b mine. inl (bare_me f (lands.o k s st id v me p is verb l pc asks acts unseen).leads b bare mine))
      st.marks
      (kept_marks m n _ st.marks at.acted.sound.spins
      (lands.marked_here k s st id v me p is verb l pc asks acts unseen)
      (λ b c h. sym (ap (λ (g : NodeName → Node). (g b).next) (done.node bare) ∙ changed.links b (off b part.Next)) ∙ h))
      st.pairs u who calls (set s.words (place_at k a) i)
      (written k st.stored n st.marks st.pairs a near i (writes ∙ ap (with_mark st.marks a) (sym (row_numbers a)))
      (λ z there read ne. ap (with_mark st.marks z) (row_else z ne)))
      (roll_stays k s.words a i near)
      (λ q e ne fit r. row_else (OfNode (node_name q (st.world.queued q)) r) (off (node_name q (st.world.queued q)) r))
      (λ q e ne fit. counted_after st.world n e (λ b. row_else (OfNode b part.Runs) (off b part.Runs)) fit.counted)
      beside homes
