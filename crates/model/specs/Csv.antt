-- Comma-separated text by RFC 4180 (02: Slip 1): a text is records, a record fields, a field quoted or not. Each definition takes its
-- part from the front of a text and gives what it took and the text after it; none where a quote is broken.
use Rattle.std.specs.Prelude.{ℕ, zero, suc, Bool, true, false, cond, ◌||◌, List, [], ◌∷◌, length, eqb}
use Rattle.std.proofs.Math.Option.{Option, none, some}
use Rattle.model.specs.Lists.{only_if, and_then, is_some}
use Rattle.model.specs.Fields.{Taken, taken, line_end, after_line_end}

-- COMMA, DQUOTE and CR; LF is `line_end`
abbrev pub comma : ℕ
comma = 44

abbrev pub quote : ℕ
quote = 34

abbrev pub carriage_return : ℕ
carriage_return = 13

-- the bytes of a field
abbrev pub Bytes : Type 0
Bytes = List ℕ

-- one byte more at the front of what was taken
abbrev pub ahead : ℕ → Taken Bytes → Taken Bytes
ahead b r = taken (b ∷ r.value) r.rest

-- "CRLF or LF line ends": the text after one. A CR that no LF follows ends nothing.
unfoldable pub after_end : List ℕ → Option (List ℕ)
after_end [] = none
after_end (b ∷ t) = cond (eqb b carriage_return) (after_line_end t) (only_if (eqb b line_end) t)

-- what may stand behind a field: a comma (the record goes on: true), or a line end or the end of the text (false)
unfoldable pub behind : List ℕ → Option (Taken Bool)
behind [] = some (taken false [])
behind (b ∷ t) = cond (eqb b comma) (some (taken true t)) (and_then (after_end (b ∷ t)) (λ u. some (taken false u)))

-- non-escaped = *TEXTDATA: the bytes ahead of a comma, a line end, a quote or the end of the text
unfoldable pub take_plain : List ℕ → Taken Bytes
take_plain [] = taken [] []
take_plain (b ∷ t) = cond (eqb b quote || is_some (behind (b ∷ t))) (taken [] (b ∷ t)) (ahead b (take_plain t))

-- *(TEXTDATA / COMMA / CR / LF / 2DQUOTE) DQUOTE: what stands behind an opening quote. Two quotes are one of the field's bytes,
-- one alone closes it; none where it is never closed.
unfoldable pub take_quoted : List ℕ → Option (Taken Bytes)
take_quoted [] = none
take_quoted (a ∷ []) = only_if (eqb a quote) (taken [] [])
take_quoted (a ∷ b ∷ t) =
    cond (eqb a quote)
    (cond (eqb b quote) (and_then (take_quoted t) (λ r. some (ahead quote r))) (some (taken [] (b ∷ t))))
    (and_then (take_quoted (b ∷ t)) (λ r. some (ahead a r)))

-- field = (escaped / non-escaped), escaped = DQUOTE .. DQUOTE
unfoldable pub take_field : List ℕ → Option (Taken Bytes)
take_field [] = some (taken [] [])
take_field (b ∷ t) = cond (eqb b quote) (take_quoted t) (some (take_plain (b ∷ t)))

-- record = field *(COMMA field), and its line end; at most n fields
unfoldable pub take_fields : ℕ → List ℕ → Option (Taken (List Bytes))
take_fields zero t = none
take_fields (suc n) t =
    and_then (take_field t) (λ f.
    and_then (behind f.rest) (λ e.
    cond e.value
    (and_then (take_fields n e.rest) (λ r. some (taken (f.value ∷ r.value) r.rest)))
    (some (taken (f.value ∷ []) e.rest))))

-- each field but the last has a byte behind it, so that n bytes have at most n + 1 fields
abbrev pub take_record : List ℕ → Option (Taken (List Bytes))
take_record t = take_fields (suc (length t)) t

-- a record, and what follows it; a record with a broken quote is none, and the last, as nothing says where it ends
abbrev pub record_then : Option (Taken (List Bytes)) → (List ℕ → List (Option (List Bytes))) → List (Option (List Bytes))
record_then none more = none ∷ []
record_then (some r) more = some r.value ∷ more r.rest

-- file = record *(CRLF record) [CRLF]: at most n records, and none left where no byte is left
unfoldable pub take_records : ℕ → List ℕ → List (Option (List Bytes))
take_records zero t = []
take_records (suc n) t = cond (eqb (length t) 0) [] (record_then (take_record t) (λ u. take_records n u))

-- each record has a byte, so that n bytes have at most n records
abbrev pub records_of : List ℕ → List (Option (List Bytes))
records_of t = take_records (length t) t
