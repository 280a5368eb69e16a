-- The rows in which a head of Dice and Kogan's lock chooses to whom it hands off: it looks for a
-- local waiter behind it, moves those that it passes over to the secondary queue, and now
-- and then lets the secondary queue return.
use Rattle.std.specs.Prelude.{◌+◌, ◌&&◌, not, is_some, nat_lt, ℕ, Option, Some, None, Bool}
use Rattle.std.specs.Prelude.{true, false, [], ◌∷◌, if◌then◌else◌}
use Rattle.lk_names.specs.declared.events.What.TheVariants as what
use Rattle.lk_word.specs.declared.spin_word.NodeName.{NodeName}
use Rattle.lk_word.specs.declared.spin_word.Locked.{Locked}
use Rattle.lk_word.specs.declared.spin_word.Locked.TheVariants.{Held}
use Rattle.lk_word.specs.declared.spin_word.Fields.{Fields}
use Rattle.lk_rows.specs.declared.parts.Flag.{Flag}
use Rattle.lk_rows.specs.declared.parts.Flag.TheVariants as flag
use Rattle.lk_rows.specs.declared.parts.Frame.{Frame}
use Rattle.lk_rows.specs.declared.parts.Pc.{Pc}
use Rattle.lk_rows.specs.declared.parts.Pc.TheVariants.{C1, C2, C3, C4, C5, C6, C7, C8, C9, C10}
use Rattle.lk_rows.specs.declared.parts.Why.{Why}
use Rattle.lk_rows.specs.declared.parts.Why.TheVariants as why
use Rattle.lk_rows.specs.Moves.{is_node, node_of}
use Rattle.lk_rows.specs.Row.{Effect, Goes, Leaves, Nothing, Says, Passes, A, B, K, T, Reason, Y}
use Rattle.lk_rows.specs.Row.{Second, looks, learns_all}

-- What a head reads besides the field of its row: the count of handoffs in its own node, which no
-- other waiter reads or writes, the threshold, and of which nodes the waiters are local to it.
pub record Sight : Type 0 where
  pub runs : ℕ
  pub threshold : ℕ
  pub local : NodeName → Bool

-- fewer handoffs than the threshold were made since the secondary queue became non-empty
abbrev pub may_stay : Sight → Bool
may_stay s = nat_lt s.runs s.threshold

-- C1 meets a waiter n. While the run may go on: a local one is chosen, another is the first and the
-- last that is passed over. When the run is over: the secondary queue returns before n, or n is
-- chosen if there is none.
abbrev pub after_first : Sight → Option NodeName → NodeName → Effect (Option NodeName)
after_first s second n =
    if may_stay s
    then (if s.local n then learns_all C7 (K 0 ∷ Y (Some n) ∷ [])
    else learns_all C2 (K 1 ∷ A (Some n) ∷ B (Some n) ∷ []))
    else (if is_some second then learns_all C3 (K 0 ∷ A (Some n) ∷ Reason why.Flush ∷ [])
    else learns_all C7 (K 0 ∷ Y (Some n) ∷ []))

-- C1 meets nobody: it looks again, or the secondary queue returns as the rest.
abbrev pub after_none : Option NodeName → Effect (Option NodeName)
after_none None = learns_all C1 (K 0 ∷ [])
after_none (Some m) = learns_all C3 (K 0 ∷ Reason why.Promotion ∷ [])

-- C1
abbrev pub search_first : Sight → Option NodeName → Option NodeName → Effect (Option NodeName)
search_first s second None = after_none second
search_first s second (Some n) = after_first s second n

-- C2 meets a waiter n: a local one is chosen, and those passed over go behind the secondary queue,
-- or begin one; another is passed over too.
abbrev pub after_more : Sight → Frame → NodeName → Effect (Option NodeName)
after_more s f n =
    if s.local n
    then (if is_some f.second then learns_all C3 (Y (Some n) ∷ Reason why.Append ∷ [])
    else learns_all C5 (Y (Some n) ∷ Second f.a ∷ []))
    else learns_all C2 (B (Some n) ∷ K (f.k + 1) ∷ [])

-- C2 meets nobody: nobody is moved; the secondary queue returns, or the first that was passed over
-- is chosen if there is none.
abbrev pub after_last : Frame → Effect (Option NodeName)
after_last f = if is_some f.second then learns_all C3 (K 0 ∷ Reason why.Flush ∷ [])
    else learns_all C7 (K 0 ∷ Y f.a ∷ [])

-- C2
abbrev pub search_on : Sight → Frame → Option NodeName → Effect (Option NodeName)
search_on s f None = after_last f
search_on s f (Some n) = after_more s f n

-- the rows on a link: of the own node (C1), of the last that was passed over (C2, C5), and of the
-- last of the secondary queue (C4, C9)
abbrev pub search_row : Sight → Pc → Frame → Option NodeName → Effect (Option NodeName)
search_row s C1 f x = search_first s f.second x
search_row s C2 f x = search_on s f x
-- those passed over, from a to b, are linked behind t, the last of the secondary queue
search_row s C4 f x = record { stores = Some f.a; leads = Goes C5 []; tells = Nothing; counts = [] }
-- and cut off from y
search_row s C5 f x =
    record { stores = Some None; leads = Goes C6 []; tells = Nothing; counts = [] }
-- the rest, from a on, is linked behind t; the secondary queue returns before it
search_row s C9 f x =
    record {
      stores = Some f.a;
      leads = Goes C7 (Y f.second ∷ Second None ∷ []);
      tells = Says (what.Flush f.lock);
      counts = [];
    }
search_row s c f x = looks c

-- where a head goes that knows the last of the secondary queue
abbrev pub after_tail : Why → Pc
after_tail why.Append = C4
after_tail why.Flush = C9
after_tail why.Promotion = C10

-- the rows on the last of the secondary queue, in the node of its first: C3 looks, C6 stores the
-- last that was passed over
abbrev pub second_row : Pc → Frame → Option NodeName → Effect (Option NodeName)
second_row C3 f x = learns_all (after_tail f.why) (T x ∷ [])
second_row C6 f x = record { stores = Some f.b; leads = Goes C7 []; tells = Nothing; counts = [] }
second_row c f x = looks c

-- the row on the count in the successor's node: one handoff more if there is a secondary queue
abbrev pub runs_row : Sight → Pc → Frame → ℕ → Effect ℕ
runs_row s C7 f x =
    record {
      stores = Some (if is_some f.second then s.runs + 1 else 0);
      leads = Goes C8 [];
      tells = Nothing;
      counts = [];
    }
runs_row s c f x = looks c

-- the flag that tells the successor of the secondary queue
abbrev pub flag_for : Option NodeName → Flag
flag_for None = flag.Go
flag_for (Some n) = flag.Second n

-- the row on the successor's flag: the head hands off to it, and k waiters were moved
abbrev pub handover_row : Pc → Frame → Flag → Effect Flag
handover_row C8 f x =
    record {
      stores = Some (flag_for f.second);
      leads = Leaves;
      tells = Passes (node_of f.y) f.k;
      counts = [];
    }
handover_row c f x = looks c

-- the byte is held, and not slow
abbrev pub is_held : Locked → Bool
is_held Held = true
is_held _ = false

-- the lock is held, nobody pends, and the tail is the node
abbrev pub is_last : Frame → Fields → Bool
is_last f x = is_held x.locked && not x.pending && is_node x.tail (node_of f.me)

-- the row on the word: while the head is the only one of the main queue, the secondary queue
-- becomes the rest, me,0,1 -> t,0,1
abbrev pub promotion_row : Pc → Frame → Fields → Effect Fields
promotion_row C10 f x =
    if is_last f x
    then record {
      stores = Some (record x { tail = f.t });
      leads = Goes C7 (Y f.second ∷ Second None ∷ []);
      tells = Says (what.Promote f.lock);
      counts = [];
    }
    else looks C1
promotion_row c f x = looks c
