-- A text, cut behind the lines that a reader gave: by one line more, by a line that passes a limit,
-- and at the end.
use Rattle.std.proofs.Common.{Bool, true, false, ◌≡◌, ◌+◌, ◌++◌, ◌^◌, ◌<◌, ◌≤◌, ℕ, List, [], ◌∷◌, Option, None, Some, length, sym, ap, ◌∙◌, subst, append_assoc, append-nil, arith, inl, inr, refl}
use Rattle.std.proofs.lemmas.List.{length-append}
use Rattle.std.specs.Io.KnownBytes.{Consumes, IsAtEnd, Keeps, prepend_known}
use Rattle.lk_text.specs.Feeds.{HasNoFeed, pieces, line_of}
use Rattle.lk_text.specs.Lines.{TakesLine, IsPiece, PassesLineLimit, PassesInputLimit}
use Rattle.lk_text.specs.Reader.{unread, pending, is_ended, GaveLine, MetEnd}
use Rattle.lk_text.specs.declared.reader.LineReader.{LineReader}
use Rattle.lk_forms.specs.Trace.{bytes_of}
use Rattle.lk_stream.specs.Reads.{IsCutTo, AllWhole}
use Rattle.lk_stream.proofs.Pieces.{pieces_at_feed, pieces_last, pieces_front, pieces_begin, line_of_feed, line_of_plain, line_of_front, bytes_of-push, AllWhole-push}

-- a line that is taken is the first line of the rest
piece_first : (line piece : List ℕ) (bytes rest : List ℕ) (ended : Bool) → HasNoFeed line
    → IsPiece line piece (Some rest) ended → bytes ≡ piece ++ rest
    → pieces bytes ≡ piece ∷ pieces rest
piece_first line piece bytes rest ended plain (inl (whole, more)) e =
    ap pieces
    (e ∙ ap (λ l. l ++ rest) whole ∙ append_assoc line
    (10 ∷ []) rest) ∙ pieces_at_feed line rest plain ∙ ap (λ l. l ∷ pieces rest) (sym whole)
piece_first line piece bytes rest ended plain (inr (whole, some, over, more)) e =
    ap pieces
    (e ∙ ap (λ l. piece ++ l) over ∙ append-nil piece ∙ whole) ∙ pieces_last line plain some ∙ ap
    (λ l. l ∷ []) (sym whole) ∙ ap (λ l. piece ∷ pieces l) (sym over)

-- the text, cut behind one line more
pub cut_on : (input before after : Option (List ℕ)) (looked looked' : ℕ) (ended : Bool) (line : List ℕ)
    (ls : List (List ℕ))
    → IsCutTo input before ls → (t : TakesLine before after looked looked' ended line)
    → IsCutTo input after (ls ++ t.piece ∷ [])
cut_on None before after looked looked' ended line ls cut t = tt
cut_on (Some xs) None after looked looked' ended line ls cut t = absurd cut
cut_on (Some xs) (Some ys) None looked looked' ended line ls cut t = absurd t.taken
cut_on (Some xs) (Some ys) (Some zs) looked looked' ended line ls cut t = (
  cut.0 ∙ ap (λ l. bytes_of ls ++ l) t.taken ∙ sym (append_assoc (bytes_of ls) t.piece zs) ∙ ap
      (λ l. l ++ zs) (sym (bytes_of-push ls t.piece)),
  cut.1 ∙ ap (λ l. ls ++ l) (piece_first line t.piece ys zs ended t.plain t.ends t.taken) ∙ sym
      (append_assoc ls (t.piece ∷ []) (pieces zs)),
)

-- what the piece of a line says
pub says_line : (before after : Option (List ℕ)) (looked looked' : ℕ) (ended : Bool) (line : List ℕ)
    → (t : TakesLine before after looked looked' ended line) → line_of t.piece ≡ line
says_line before after looked looked' ended line t = line_is t.piece t.ends
  where
    line_is : (piece : List ℕ) → IsPiece line piece after ended → line_of piece ≡ line
    line_is piece (inl (whole, ended_not)) = ap line_of whole ∙ line_of_feed line [] t.plain
    line_is piece (inr (whole, some, over, ended_yes)) =
        ap line_of whole ∙ line_of_plain line t.plain

-- what was taken of a source where nothing but this is pending
pub taken_whole : (input before left : Option (List ℕ)) (pending : List ℕ) (ls : List (List ℕ))
    → IsCutTo input before ls → Keeps before (prepend_known pending left)
    → Consumes input left (bytes_of ls ++ pending)
taken_whole None before left pending ls cut k = tt
taken_whole (Some xs) None left pending ls cut k = absurd cut
taken_whole (Some xs) (Some ys) None pending ls cut k = absurd k
taken_whole (Some xs) (Some ys) (Some zs) pending ls cut k =
    cut.0 ∙ ap (λ l. bytes_of ls ++ l) (sym k) ∙ sym (append_assoc (bytes_of ls) pending zs)

-- nothing is left in a source where nothing is unread
left_over : (pending : List ℕ) (left : Option (List ℕ)) → IsAtEnd (prepend_known pending left)
    → IsAtEnd left
left_over pending None over = tt
left_over [] (Some xs) over = over
left_over (b ∷ pending) (Some xs) over = cc

-- the text, cut before its first line
pub cut_fresh : (left : Option (List ℕ)) (bytes : List ℕ) → bytes ≡ []
    → IsCutTo left (prepend_known bytes left) []
cut_fresh None bytes e = tt
cut_fresh (Some xs) bytes e = (ap (λ l. l ++ xs) (sym e), ap (λ l. pieces (l ++ xs)) (sym e))

-- ---- the next line passes a limit

-- the next line is longer than a line may be
pub long_piece : (xs ys : List ℕ) (ls : List (List ℕ)) (looked : ℕ)
    → IsCutTo (Some xs) (Some ys) ls → PassesLineLimit (Some ys) looked
    → (piece : List ℕ) × (rest : List (List ℕ)) × (pieces xs ≡ ls ++ piece ∷ rest)
    × (4096 < length (line_of piece))
long_piece xs ys ls looked cut limit =
    let front = limit.front in
    let long = limit.long in
    let begins = pieces_begin front limit.stands.0 limit.plain (omega arith) in (
      front ++ begins.0,
      begins.1,
      cut.1 ∙ ap (λ m. ls ++ m) (ap pieces limit.stands.1 ∙ begins.2),
      rw (line_of_front front begins.0 limit.plain, length-append) (omega arith),
    )

-- with the next line the text is longer than it may be
pub much_piece : (xs ys : List ℕ) (ls : List (List ℕ)) (looked : ℕ)
    → IsCutTo (Some xs) (Some ys) ls → PassesInputLimit (Some ys) looked
    → (piece : List ℕ) × (rest : List (List ℕ)) × (pieces xs ≡ ls ++ piece ∷ rest)
    × (looked + 4096 ≤ 2 ^ 30 → length (line_of piece) ≤ 4096) × (2 ^ 30 < looked + length piece)
much_piece xs ys ls looked cut limit =
    let front = limit.front in
    let all = limit.all in
    let short = limit.short in
    let split : ys ≡ front ++ limit.last ∷ limit.stands.0 =
    limit.stands.1 ∙ append_assoc front (limit.last ∷ []) limit.stands.0 in
    let begins = pieces_front front limit.last limit.stands.0 limit.plain in
    let size : length (front ++ limit.last ∷ begins.0) ≡ length front + (length begins.0 + 1) =
    length-append front (limit.last ∷ begins.0) ∙ omega arith in (
      front ++ limit.last ∷ begins.0,
      begins.1,
      cut.1 ∙ ap (λ m. ls ++ m) (ap pieces split ∙ begins.2),
      λ room.
          let feed : limit.last ≡ 10 = limit.at_both (omega arith) in
          let is : line_of (front ++ limit.last ∷ begins.0) ≡ front =
          ap (λ b. line_of
          (front ++ b ∷ begins.0)) feed ∙ line_of_feed front begins.0 limit.plain in
          rw is (omega arith),
      omega arith,
    )

-- ---- a reader that gave these lines

module _ (old new : LineReader) (left left' : Option (List ℕ)) where
  -- it met the end
  pub over_at : (is_ended old ≡ true → IsAtEnd (unread old left)) → MetEnd old new left left'
      → (is_ended old ≡ true → left' ≡ left) → IsAtEnd (unread old left) × IsAtEnd left'
  over_at over met idle = by_end (is_ended old) refl
    where
      by_end : (e : Bool) → is_ended old ≡ e → IsAtEnd (unread old left) × IsAtEnd left'
      by_end true e =
          (over e, subst IsAtEnd (sym (idle e)) (left_over (pending old) left (over e)))
      by_end false e =
          ((met.over e).before_end, left_over (pending new) left' (met.over e).after_end)

  -- it gave one more
  module _ (line : List ℕ) (gave : GaveLine old new left left' line) where
    pub whole_on : (ls : List (List ℕ)) → (is_ended old ≡ false → AllWhole ls)
        → is_ended new ≡ false → AllWhole (ls ++ gave.takes.piece ∷ [])
    whole_on ls whole not_ended = elim gave.takes.ends [
      | inl feed ↦ subst (λ x. AllWhole (ls ++ x ∷ [])) (sym feed.0)
          (AllWhole-push ls line (whole gave.was_not) gave.takes.plain)
      | inr last ↦ (let yes = last.3 in cc)
    ]

    pub over_on : is_ended new ≡ true → IsAtEnd (unread new left')
    over_on ended =
        elim gave.takes.ends [ inl feed ↦ (let no_end = feed.1 in cc) | inr last ↦ last.2 ]
