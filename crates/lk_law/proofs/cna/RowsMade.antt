-- What each row of the choice makes of a world.
use Rattle.std.proofs.Common.{Option, Some, None, refl, [], ◌∷◌, ◌+◌, is_some, if◌then◌else◌}
use Rattle.lk_law.proofs.Names.{Fields, NodeName, LockName, node_of, A, B, K, Reason, Y, Frame, C1}
use Rattle.lk_law.proofs.Names.{C2, C3, C4, C5, C6, C7, C8, C9, C10, Why, Sight, after_none}
use Rattle.lk_law.proofs.Names.{after_tail, is_last, may_stay, search_first, search_on, Taking}
use Rattle.lk_law.proofs.Names.{sight_in}
use Rattle.lk_rows.specs.Row.{Second, learns_all}
use Rattle.lk_rows.specs.rows.Cna.{search_row, second_row, runs_row, handover_row, promotion_row}
use Rattle.lk_law.proofs.common.Puts.{if_cases}
use Rattle.lk_law.proofs.common.RowsMade.{Good, RowMakes, good_if, onward, word_made, flag_made}
use Rattle.lk_law.proofs.{common.RowsMade.{next_made, second_made, runs_made}, rw.Else.IsIn}
use Rattle.lk_rows.specs.declared.parts.Why.TheVariants as why

-- the rows of the choice

on_none : (l : LockName) (second : Option NodeName) → Good Taking l (after_none second)
on_none l None = (onward C1 refl refl, tt)
on_none l (Some n) = (onward C3 refl refl, tt)

on_search : (l : LockName) (s : Sight) (second x : Option NodeName)
    → Good Taking l (search_first s second x)
on_search l s second None = on_none l second
on_search l s second (Some n) =
    good_if l (may_stay s)
    (if s.local n then learns_all C7 (K 0 ∷ Y (Some n) ∷ []) else learns_all C2
    (K 1 ∷ A (Some n) ∷ B (Some n) ∷ []))
    (if is_some second then learns_all C3 (K 0 ∷ A (Some n) ∷ Reason why.Flush ∷ [])
    else learns_all C7 (K 0 ∷ Y (Some n) ∷ []))
    (good_if l (s.local n) (learns_all C7 (K 0 ∷ Y (Some n) ∷ []))
    (learns_all C2 (K 1 ∷ A (Some n) ∷ B (Some n) ∷ [])) (onward C7 refl refl, tt)
    (onward C2 refl refl, tt))
    (good_if l (is_some second) (learns_all C3 (K 0 ∷ A (Some n) ∷ Reason why.Flush ∷ []))
    (learns_all C7 (K 0 ∷ Y (Some n) ∷ [])) (onward C3 refl refl, tt) (onward C7 refl refl, tt))

on_scan : (s : Sight) (f : Frame) (x : Option NodeName) → Good Taking f.lock (search_on s f x)
on_scan s f None =
    good_if f.lock (is_some f.second) (learns_all C3 (K 0 ∷ Reason why.Flush ∷ []))
    (learns_all C7 (K 0 ∷ Y f.a ∷ [])) (onward C3 refl refl, tt) (onward C7 refl refl, tt)
on_scan s f (Some n) =
    good_if f.lock (s.local n)
    (if is_some f.second then learns_all C3
    (Y (Some n) ∷ Reason why.Append ∷ []) else learns_all C5 (Y (Some n) ∷ Second f.a ∷ []))
    (learns_all C2 (B (Some n) ∷ K (f.k + 1) ∷ []))
    (good_if f.lock (is_some f.second) (learns_all C3 (Y (Some n) ∷ Reason why.Append ∷ []))
    (learns_all C5 (Y (Some n) ∷ Second f.a ∷ [])) (onward C3 refl refl, tt)
    (onward C5 refl refl, tt))
    (onward C2 refl refl, tt)

on_tail : (y : Why) → IsIn Taking (after_tail y)
on_tail why.Append = onward C4 refl refl
on_tail why.Flush = onward C9 refl refl
on_tail why.Promotion = onward C10 refl refl

on_promotion : (f : Frame) (x : Fields) → Good Taking f.lock (promotion_row C10 f x)
on_promotion f x =
    if_cases (Good Taking f.lock) (is_last f x) _ _ (λ e. (onward C7 refl refl, refl))
    (λ e. (onward C1 refl refl, tt))

pub makes_C1 : RowMakes C1
makes_C1 m w f =
    next_made (node_of f.me) (search_row (sight_in m w f) C1 f (m.node (node_of f.me)).next)
    (on_search f.lock (sight_in m w f) f.second (m.node (node_of f.me)).next)

pub makes_C2 : RowMakes C2
makes_C2 m w f =
    next_made (node_of f.b) (search_row (sight_in m w f) C2 f (m.node (node_of f.b)).next)
    (on_scan (sight_in m w f) f (m.node (node_of f.b)).next)

pub makes_C3 : RowMakes C3
makes_C3 m w f =
    second_made (node_of f.second) (second_row C3 f (m.node (node_of f.second)).second_tail)
    (on_tail f.why, tt)

pub makes_C4 : RowMakes C4
makes_C4 m w f =
    next_made (node_of f.t) (search_row (sight_in m w f) C4 f (m.node (node_of f.t)).next)
    (onward C5 refl refl, tt)

pub makes_C5 : RowMakes C5
makes_C5 m w f =
    next_made (node_of f.b) (search_row (sight_in m w f) C5 f (m.node (node_of f.b)).next)
    (onward C6 refl refl, tt)

pub makes_C6 : RowMakes C6
makes_C6 m w f =
    second_made (node_of f.second) (second_row C6 f (m.node (node_of f.second)).second_tail)
    (onward C7 refl refl, tt)

pub makes_C7 : RowMakes C7
makes_C7 m w f =
    runs_made (node_of f.y) (runs_row (sight_in m w f) C7 f (m.node (node_of f.y)).runs)
    (onward C8 refl refl, tt)

pub makes_C8 : RowMakes C8
makes_C8 m w f = flag_made (node_of f.y) (handover_row C8 f (m.node (node_of f.y)).flag) (tt, tt)

pub makes_C9 : RowMakes C9
makes_C9 m w f =
    next_made (node_of f.t) (search_row (sight_in m w f) C9 f (m.node (node_of f.t)).next)
    (onward C7 refl refl, refl)

pub makes_C10 : RowMakes C10
makes_C10 m w f = word_made (promotion_row C10 f (m.word f.lock)) (on_promotion f (m.word f.lock))
