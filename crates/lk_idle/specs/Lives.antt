-- Which registers live at each place: what is in them may still be read before a row writes them.
use Rattle.std.specs.Prelude.{Option, Some, Bool, true, false, not}
use Rattle.lk_rows.specs.declared.parts.Pc.{Pc}
use Rattle.lk_rows.specs.declared.parts.Pc.TheVariants.{G2, G3, G4, G5, G6, G7, G8, G9, G11}
use Rattle.lk_rows.specs.declared.parts.Pc.TheVariants.{C1, C2, C3, C4, C5, C6, C7, C8, C9, C10}
use Rattle.lk_rows.specs.declared.parts.Pc.TheVariants.{H1, H2, W1, W2, W3, W4, W5, W6, W7}
use Rattle.lk_rows.specs.declared.parts.Pc.TheVariants.{E2, E3, E4, E5, E10, E11, E12, E15}
use Rattle.lk_rows.specs.declared.parts.Pc.TheVariants.{K1, K2, K3, U4, U5}
use Rattle.lk_rows.specs.declared.parts.Why.{Why}
use Rattle.lk_rows.specs.declared.parts.Why.TheVariants as why
use Rattle.lk_idle.specs.declared.lives.Lives.{Lives}

-- none of them lives
abbrev pub none_lives : Lives
none_lives = record {
  prev = false;
  second = false;
  y = false;
  a = false;
  b = false;
  k = false;
  t = false;
  why = false;
  tailed = false;
  left = false;
  hashed = false;
  target = false;
}

-- those that were passed over are moved aside, and not the rest of the queue
abbrev pub is_append : Why → Bool
is_append why.Append = true
is_append _ = false

-- the secondary queue returns as the rest, in which nobody was met
abbrev pub is_promotion : Why → Bool
is_promotion why.Promotion = true
is_promotion _ = false

-- where a head reads the last of the secondary queue (C3)
abbrev pub tail_lives : Why → Lives
tail_lives w = record none_lives {
  second = true;
  k = true;
  why = true;
  a = not (is_promotion w);
  b = is_append w;
  y = is_append w;
}

-- the first of the secondary queue: from the entry to the slow path until it is handed on
abbrev pub second_lives : Lives
second_lives = record none_lives { second = true }

-- the node before the own one, until it is linked and, in `pv`, while its state is read
abbrev pub prev_lives : Lives
prev_lives = record none_lives { prev = true }

-- the node of the successor, once it is found
abbrev pub y_lives : Lives
y_lives = record none_lives { y = true }

-- whether the own node is in the hash, as long as the head may halt
abbrev pub hashed_lives : Lives
hashed_lives = record none_lives { hashed = true }

-- whom to kick
abbrev pub target_lives : Lives
target_lives = record none_lives { target = true }

-- Those that live at each place. At a place that is not here, none does.
abbrev pub lives_at : Option Pc → Why → Lives
lives_at (Some G2) w = second_lives
lives_at (Some G3) w = second_lives
lives_at (Some G4) w = second_lives
lives_at (Some G5) w = record second_lives { prev = true }
lives_at (Some G6) w = second_lives
lives_at (Some G7) w = second_lives
lives_at (Some G8) w = second_lives
lives_at (Some G9) w = second_lives
lives_at (Some G11) w = y_lives
lives_at (Some C1) w = second_lives
lives_at (Some C2) w = record second_lives { a = true; b = true; k = true }
lives_at (Some C3) w = tail_lives w
lives_at (Some C4) w = record second_lives { a = true; b = true; k = true; y = true; t = true }
lives_at (Some C5) w = record second_lives { b = true; k = true; y = true }
lives_at (Some C6) w = record second_lives { b = true; k = true; y = true }
lives_at (Some C7) w = record second_lives { k = true; y = true }
lives_at (Some C8) w = record second_lives { k = true; y = true }
lives_at (Some C9) w = record second_lives { a = true; k = true; t = true }
lives_at (Some C10) w = record second_lives { k = true; t = true }
lives_at (Some H1) w = second_lives
lives_at (Some H2) w = record second_lives { tailed = true }
lives_at (Some W1) w = record prev_lives { left = true }
lives_at (Some W2) w = record prev_lives { left = true }
lives_at (Some W3) w = prev_lives
lives_at (Some W4) w = prev_lives
lives_at (Some W5) w = prev_lives
lives_at (Some W6) w = prev_lives
lives_at (Some W7) w = prev_lives
lives_at (Some E2) w = hashed_lives
lives_at (Some E3) w = hashed_lives
lives_at (Some E4) w = record hashed_lives { left = true }
lives_at (Some E5) w = hashed_lives
lives_at (Some E10) w = hashed_lives
lives_at (Some E11) w = hashed_lives
lives_at (Some E12) w = hashed_lives
lives_at (Some E15) w = y_lives
lives_at (Some K1) w = y_lives
lives_at (Some K2) w = y_lives
lives_at (Some K3) w = y_lives
lives_at (Some U4) w = target_lives
lives_at (Some U5) w = target_lives
lives_at _ w = none_lives
