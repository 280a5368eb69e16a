-- Where processors halt no link has a mark, and no front looks along links or links others behind a second
-- queue: so nothing is to be shown of marks.
use Rattle.std.proofs.Common.{◌≡◌, ℕ, List, Some, true, false, sym, refl, ◌∙◌}
use Rattle.lk_pvdomain.proofs.Names.{NodeName, LockHistory, LockName, Waiter, Frame, Pc, halts, Met}
use Rattle.lk_pvdomain.proofs.Names.{IsSoundSpinWorld, World, Running, frame_in, waiter, erases}
use Rattle.lk_pvdomain.proofs.Names.{fills, halts_at}
use Rattle.lk_rows.specs.declared.parts.Pc.TheVariants.{C1, C2, C3, C4, C9}
use Rattle.lk_rows.specs.declared.parts.Why.{Why}
use Rattle.lk_law.proofs.common.Choices.{aside_awake}
use Rattle.lk_law.specs.{Families.chooses, Nodes.{looks_along, will_link}}
use Rattle.lk_domain.proofs.rows.Users.{AreRight, KeepsMarks, IsTrue}
use Rattle.lk_domain.specs.Runs.{AreTold}
use Rattle.lk_pvdomain.specs.PvRows.{on_state}

along_chooses : (c : Pc) → looks_along c ≡ true → chooses c ≡ true
along_chooses C1 h = refl
along_chooses C2 h = refl
along_chooses _ h = cc h

-- no row of these kinds looks along links

pub state_off : (c : Pc) → on_state c ≡ true → looks_along c ≡ true → ⊥
state_off C1 h e = cc h
state_off C2 h e = cc h
state_off _ h e = cc e

pub halt_off : (c : Pc) → halts_at c ≡ true → looks_along c ≡ true → ⊥
halt_off C1 h e = cc h
halt_off C2 h e = cc h
halt_off _ h e = cc e

pub fill_off : (c : Pc) → fills c ≡ true → looks_along c ≡ true → ⊥
fill_off C1 h e = cc h
fill_off C2 h e = cc h
fill_off _ h e = cc e

pub erase_off : (c : Pc) → erases c ≡ true → looks_along c ≡ true → ⊥
erase_off C1 h e = cc h
erase_off C2 h e = cc h
erase_off _ h e = cc e

link_chooses : (c : Pc) (y : Why) → will_link c y ≡ true → chooses c ≡ true
link_chooses C2 y h = refl
link_chooses C3 y h = refl
link_chooses C4 y h = refl
link_chooses C9 y h = refl
link_chooses _ y h = cc h

module _ (m : World) (hs : LockName → LockHistory) (ok : IsSoundSpinWorld m hs) (halting : halts m.mode ≡ true) where
  -- no frame stands where the next is chosen
  chooses_none : (w : Waiter) (f : Frame) (c : Pc) → m.frame w ≡ Some f → f.place ≡ Some c → chooses c ≡ true → ⊥
  chooses_none w f c live place on =
      let z : true ≡ false = sym halting ∙ aside_awake m.mode ((ok.registers w f live).choice.choice c place on) in cc z

  pub unseen_links : (w : Waiter) (f : Frame) (c : Pc) → m.frame w ≡ Some f → f.place ≡ Some c → (y : Met) → IsTrue m c y
  unseen_links w f c live place y e = absurd (chooses_none w f c live place (along_chooses c e))

  pub untold : (n : World) (p : ℕ) (rs : List Running)
      → ((d : ℕ) (f : Frame) → frame_in rs d ≡ Some f → m.frame (waiter p d) ≡ Some f) → AreTold n rs
  untold n p rs live d f c a b w at place on =
      absurd (chooses_none (waiter p d) f c (live d f at) place (link_chooses c f.why on))

-- the marks stay as they are
pub marks_stay : (m n : World) (marks : NodeName → Rattle.std.proofs.Common.Bool) → halts m.mode ≡ true → AreRight m marks
    → KeepsMarks m n marks
marks_stay m n marks halting are =
    record {
      used = λ awake. absurd (let z : true ≡ false = sym halting ∙ awake in cc z);
      says = λ awake. absurd (let z : true ≡ false = sym halting ∙ awake in cc z);
      bare = are.bare;
    }
