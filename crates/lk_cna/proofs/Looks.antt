-- A row that only looks stores, tells and counts nothing: it leads its frame on, whatever it met.
use Rattle.std.proofs.Common.{◌≡◌, ℕ, Option, Some, None, List, refl, subst, sym}
use Rattle.lk_word.specs.declared.spin_word.NodeName.{NodeName}
use Rattle.lk_rows.specs.declared.parts.Frame.{Frame}
use Rattle.lk_rows.specs.declared.parts.Node.{Node}
use Rattle.lk_rows.specs.declared.parts.Pc.{Pc}
use Rattle.lk_rows.specs.declared.parts.Pc.TheVariants.{C1, C2}
use Rattle.lk_rows.specs.Machine.{Machine, node_at, set_top, top_frame}
use Rattle.lk_rows.specs.Moves.{node_of}
use Rattle.lk_rows.specs.Row.{Answer, Change, Effect, learns_all}
use Rattle.lk_rows.specs.TopRow.{on_next, row, sight_at}
use Rattle.lk_rows.specs.declared.search.First.{First}
use Rattle.lk_rows.specs.declared.search.First.TheVariants as first
use Rattle.lk_rows.specs.declared.search.More.{More}
use Rattle.lk_rows.specs.declared.search.More.TheVariants as more
use Rattle.lk_rows.specs.Searching.{first_by, first_effect, more_by, more_effect}
use Rattle.lk_rows.proofs.Searching.{search_first-by, search_on-by}
use Rattle.lk_cna.specs.Row.{frame_after}

-- the outcome is a look that leads to a place with some registers changed
abbrev IsLook : Effect (Option NodeName) → Type 0
IsLook o = (c : Pc) × ((cs : List Change) × (o ≡ learns_all c cs))

-- what such a row does to a machine
abbrev Looked : Machine → ℕ → Frame → NodeName → Effect (Option NodeName) → Type 0
Looked m p f n o = ◌≡◌ {A = Answer} (on_next m p f n o) (set_top m p (frame_after f o.leads), None)

looked : (m : Machine) (p : ℕ) (f : Frame) (n : NodeName) (o : Effect (Option NodeName)) → IsLook o → Looked m p f n o
looked m p f n o (c, (cs, e)) = subst (Looked m p f n) (sym e) refl

-- C1 only looks
first_is_look : (met : First) → IsLook (first_effect met)
first_is_look first.Waits = (_, (_, refl))
first_is_look (first.Promotes m) = (_, (_, refl))
first_is_look (first.Chooses n) = (_, (_, refl))
first_is_look (first.Skips n) = (_, (_, refl))
first_is_look (first.Flushes m n) = (_, (_, refl))

-- C2 only looks
more_is_look : (f : Frame) (met : More) → IsLook (more_effect f met)
more_is_look f (more.Skips n) = (_, (_, refl))
more_is_look f (more.Appends m n) = (_, (_, refl))
more_is_look f (more.Begins n) = (_, (_, refl))
more_is_look f (more.Flushes m) = (_, (_, refl))
more_is_look f more.Chooses = (_, (_, refl))

-- C1, by what the head met, and the frame that it leaves
pub row_C1 : (m m' : Machine) (p : ℕ) (f after : Frame) (node : Node) (met : First) → (top_frame m p).place ≡ Some C1
    → f ≡ top_frame m p → node ≡ node_at m (node_of f.me) → met ≡ first_by (sight_at m p f) f.second node.next
    → after ≡ frame_after f (first_effect met).leads → m' ≡ set_top m p after → ◌≡◌ {A = Answer} (row m p) (m', None)
row_C1 m m' p f after node met here f_is node_is met_is after_is m'_is =
    rw (m'_is, after_is, met_is, node_is, f_is, here, search_first-by (sight_at m p (top_frame m p)) (top_frame m p).second (node_at m (node_of (top_frame m p).me)).next)
    (looked m p (top_frame m p) (node_of (top_frame m p).me) _ (first_is_look _))

-- C2, by what the head met, and the frame that it leaves
pub row_C2 : (m m' : Machine) (p : ℕ) (f after : Frame) (node : Node) (met : More) → (top_frame m p).place ≡ Some C2
    → f ≡ top_frame m p → node ≡ node_at m (node_of f.b) → met ≡ more_by (sight_at m p f) f.second node.next
    → after ≡ frame_after f (more_effect f met).leads → m' ≡ set_top m p after → ◌≡◌ {A = Answer} (row m p) (m', None)
row_C2 m m' p f after node met here f_is node_is met_is after_is m'_is =
    rw (m'_is, after_is, met_is, node_is, f_is, here, search_on-by (sight_at m p (top_frame m p)) (top_frame m p) (top_frame m p).second (node_at m (node_of (top_frame m p).b)).next refl)
    (looked m p (top_frame m p) (node_of (top_frame m p).b) _ (more_is_look (top_frame m p) _))
