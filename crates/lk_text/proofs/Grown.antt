-- A text that goes to a sink by and by.
use Rattle.std.proofs.Common.{◌≤◌, ◌+◌, ◌-◌, List, ℕ, Option, length, take, drop, sym, take-append-drop, arith}
use Rattle.std.proofs.lemmas.List.{take_rest, length-take, length-drop}
use Rattle.std.proofs.Math.Seq.{take-add}
use Rattle.std.proofs.KnownBytes.{Appends-trans}
use Rattle.std.specs.Io.KnownBytes.{Appends}
use Rattle.lk_text.specs.Bytes.{AppendsFront}

-- n more bytes of the text behind the first i
pub Appends_more : (old mid new : Option (List ℕ)) (text : List ℕ) (i n : ℕ) → Appends old mid (take i text)
    → Appends mid new (take n (take (length text - i) (drop i text))) → Appends old new (take (i + n) text)
Appends_more old mid new text i n first more =
    rw take-add (Appends-trans old mid new _ _ first (rw take_rest at more))

-- a front of the text, and then nothing more
pub front_of_text : (old new : Option (List ℕ)) (text : List ℕ) (i : ℕ) → Appends old new (take i text) → AppendsFront old new text
front_of_text old new text i grown =
    record { front = take i text; rest = drop i text; whole = sym (take-append-drop i text); grown = grown }

-- so many more bytes stay within the text
pub count_fits : (text : List ℕ) (i n : ℕ) → i ≤ length text → n ≤ length (take (length text - i) (drop i text)) → i + n ≤ length text
count_fits text i n within fits = omega (arith, simp (length-take, length-drop) at fits)
