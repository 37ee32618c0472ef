-- A file that departs nowhere is the text of the rows in it.
use Rattle.std.proofs.Common.{◌≡◌, ◌⊎◌, inl, inr, refl, sym, ◌∙◌, ap, subst, ℕ, zero, suc, pred, ◌+◌, ◌-◌, ◌/◌, ◌%◌, ◌≤◌, ◌<◌, nat_lt, Bool, true, false, ◌||◌, ◌&&◌, ◌==◌, List, [], ◌∷◌, ◌++◌, map, length, take, drop, Option, Some, None, slice_index_or, arith}
use Rattle.std.specs.Prelude.{slice_get}
use Rattle.std.specs.List.{AllZip}
use Rattle.std.proofs.Math.Nat.{add-div_left, div-eq_of_lt, div-eq_of_lt-le, mod-eq_of_lt, add-mod_right}
use Rattle.std.proofs.lemmas.List.{append_assoc, append-nil, length-append, take-append-drop, length-take-le, length-drop}
use Rattle.std.proofs.lemmas.List.Elements.{All-nil, All-cons}
use Rattle.std.proofs.lemmas.Bool.{cases_lt}
use Rattle.std.proofs.lemmas.Bool.Decides.{nat_tests}
use Rattle.b4_core.specs.declared.bit.Bit4.{Bit4}
use Rattle.stim_rows.specs.declared.shape.Port.{Port}
use Rattle.stim_rows.specs.declared.slots.Slot.{Slot}
use Rattle.stim_rows.specs.declared.slots.Slot.TheVariants.{FourState, Space, LineEnd}
use Rattle.stim_rows.specs.RowFiles.{line_text, text_of, RowFits, IsText, RowsText}
use Rattle.stim_rows.specs.Slots.{joined, takes, port_slots, slots_of}
use Rattle.stim_rows.specs.Departures.{is_taken, is_whole, Keeps}
use Rattle.stim_rows.specs.Reading.{row_in, rows_in, count_of}
use Rattle.stim_rows.proofs.Zips.{Parts, zip-parts}
use Rattle.stim_rows.proofs.Ports.{Stands, Holds, ap2, equal, or-cases, row-of-body}

abbrev pub found : List Slot → Option ℕ → ℕ → Bool
found slots o m = elim o [ None ↦ false | Some byte ↦ takes (slice_index_or slots m FourState) byte ]

zip-of : (slots : List Slot) (line : List ℕ) → length line ≡ length slots → ((j : ℕ) → j < length slots → found slots (slice_get line j) j ≡ true) → AllZip Stands slots line
zip-of [] [] e h = tt
zip-of [] (b ∷ line) e h = absurd (omega arith)
zip-of (s ∷ slots) [] e h = absurd (omega arith)
zip-of (s ∷ slots) (b ∷ line) e h = (h 0 (omega arith), zip-of slots line (omega arith) (λ j below. h (suc j) (omega arith)))

pub get-front : (front back : List ℕ) (j : ℕ) → j < length front → slice_get (front ++ back) j ≡ slice_get front j
get-front [] back j below = absurd (omega arith)
get-front (x ∷ front) back zero below = refl
get-front (x ∷ front) back (suc j) below = get-front front back j (omega arith)

pub get-behind : (front back : List ℕ) (j k : ℕ) → k ≡ j + length front → slice_get (front ++ back) k ≡ slice_get back j
get-behind [] back j k e = ap (slice_get back) (omega arith)
get-behind (x ∷ front) back j zero e = absurd (omega arith)
get-behind (x ∷ front) back j (suc k) e = get-behind front back j k (omega arith)

slot-front : (front back : List Slot) (j : ℕ) → j < length front → slice_index_or (front ++ back) j FourState ≡ slice_index_or front j FourState
slot-front [] back j below = absurd (omega arith)
slot-front (x ∷ front) back zero below = refl
slot-front (x ∷ front) back (suc j) below = slot-front front back j (omega arith)

-- the last byte of a line
line-end : (l : List ℕ) → AllZip Stands (LineEnd ∷ []) l → l ≡ 10 ∷ []
line-end [] z = absurd z
line-end (b ∷ []) z = ap (λ x. x ∷ []) (equal b 10 z.0)
line-end (b ∷ c ∷ l) z = absurd z.1

module _ (inputs : List Port) where
  abbrev body : List Slot
  body = joined Space (map port_slots inputs)

  abbrev size : ℕ
  size = length (slots_of inputs)

  pub is-size : size ≡ suc (length body)
  is-size = length-append body (LineEnd ∷ []) ∙ one (length body)
    where
      one : (k : ℕ) → k + 1 ≡ suc k
      one k = omega arith

  -- the bytes of a whole line
  first-line : (front back : List ℕ) → length front ≡ size → Keeps (slots_of inputs) (front ++ back) → AllZip Stands (slots_of inputs) front
  first-line front back e kept = zip-of (slots_of inputs) front e at
    where
      at : (j : ℕ) → j < size → found (slots_of inputs) (slice_get front j) j ≡ true
      at j below =
          sym (ap2 (found (slots_of inputs)) (get-front front back j (omega arith)) (mod-eq_of_lt below))
          ∙ kept.taken j (omega (arith, length-append front back))

  -- the bytes of a line without its newline
  last-line : (line : List ℕ) → suc (length line) ≡ size → Keeps (slots_of inputs) line → AllZip Stands body line
  last-line line e kept = zip-of body line (omega (arith, is-size)) at
    where
      at : (j : ℕ) → j < length body → found body (slice_get line j) j ≡ true
      at j below =
          ap (λ s. elim (slice_get line j) [ None ↦ false | Some byte ↦ takes s byte ]) (sym (slot-front body (LineEnd ∷ []) j below))
          ∙ sym (ap (found (slots_of inputs) (slice_get line j)) (mod-eq_of_lt (omega (arith, is-size))))
          ∙ kept.taken j (omega (arith, is-size))

  -- what is behind a line departs nowhere
  kept-behind : (front back : List ℕ) → length front ≡ size → Keeps (slots_of inputs) (front ++ back) → Keeps (slots_of inputs) back
  kept-behind front back e kept = record { taken = taken; ends = ends }
    where
      same : (j : ℕ) → (j + length front) % size ≡ j % size
      same j = ap (λ n. (j + n) % size) e ∙ add-mod_right j size

      taken : (j : ℕ) → j < length back → is_taken (slots_of inputs) back j ≡ true
      taken j below =
          sym (ap2 (found (slots_of inputs)) (get-behind front back j (j + length front) refl) (same j))
          ∙ kept.taken (j + length front) (omega (arith, length-append front back))

      ends : is_whole (slots_of inputs) (length back) ≡ true
      ends =
          ap (λ m. m == 0 || (nat_lt 1 size && suc m == size)) (sym (ap (λ n. n % size) (omega (arith, length-append front back)) ∙ same (length back)))
          ∙ kept.ends

  -- a row and the rows behind it
  with-line : (front back : List ℕ) (rows : List (List (List Bit4))) → AllZip Stands (slots_of inputs) front → RowsText inputs back rows
      → RowsText inputs (front ++ back) (row_in inputs (front ++ back) ∷ rows)
  with-line front back rows stand rest = from (zip-parts Stands body (LineEnd ∷ []) front stand)
    where
      from : Parts (AllZip Stands body) (AllZip Stands (LineEnd ∷ [])) front → RowsText inputs (front ++ back) (row_in inputs (front ++ back) ∷ rows)
      from parts =
          let line : front ≡ parts.front ++ 10 ∷ [] = parts.are ∙ ap (λ l. parts.front ++ l) (line-end parts.back parts.in_back) in
          let bytes : front ++ back ≡ parts.front ++ (10 ∷ back) = ap (λ l. l ++ back) line ∙ append_assoc parts.front (10 ∷ []) back in
          let holds = row-of-body (10 ∷ back) inputs parts.front parts.in_front in
          let row : row_in inputs (front ++ back) ≡ row_in inputs (parts.front ++ (10 ∷ back)) = ap (row_in inputs) bytes in
          let text : line_text (row_in inputs (front ++ back)) ≡ front = ap line_text row ∙ ap (λ l. l ++ 10 ∷ []) holds.same ∙ sym line in
          record { fit = All-cons (RowFits inputs) (row_in inputs (front ++ back)) rows (subst (RowFits inputs) (sym row) holds.fits) rest.fit; text = ended (row_in inputs (front ++ back)) text rest.text }
        where
          ended : (row : List (List Bit4)) → line_text row ≡ front → IsText inputs back (text_of rows) → IsText inputs (front ++ back) (line_text row ++ text_of rows)
          ended row e (inl d) = inl (ap2 (λ x y. x ++ y) (sym e) d)
          ended row e (inr d) = inr (d.0, append_assoc front back (10 ∷ []) ∙ ap2 (λ x y. x ++ y) (sym e) d.1)

  -- a last line without its newline
  only-line : (line : List ℕ) → suc (length line) ≡ size → 1 < size → Keeps (slots_of inputs) line → RowsText inputs line (row_in inputs line ∷ [])
  only-line line e more kept = record { fit = All-cons (RowFits inputs) (row_in inputs line) [] holds.fits (All-nil (RowFits inputs)); text = inr (more, sym text) }
    where
      holds : Holds inputs (row_in inputs line) (joined 32) line
      holds = subst (λ l. Holds inputs (row_in inputs l) (joined 32) line) (append-nil line) (row-of-body [] inputs line (last-line line e kept))

      text : line_text (row_in inputs line) ++ [] ≡ line ++ 10 ∷ []
      text = append-nil (line_text (row_in inputs line)) ∙ ap (λ l. l ++ 10 ∷ []) holds.same

  -- how many lines there are
  none-left : (n : ℕ) → 0 ≡ count_of size n → n ≡ 0
  none-left n e = by (cases_lt (n + pred size) size)
    where
      by : ((n + pred size) < size) ⊎ (size ≤ (n + pred size)) → n ≡ 0
      by (inl below) = omega (arith, is-size)
      by (inr above) = absurd (some (add-div_left ((n + pred size) - size) (omega (arith, is-size))))
        where
          total : size + ((n + pred size) - size) ≡ n + pred size
          total = omega arith

          some : (size + ((n + pred size) - size)) / size ≡ ((n + pred size) - size) / size + 1 → ⊥
          some d = absurd (zero-is (((n + pred size) - size) / size) (e ∙ sym (ap (λ m. m / size) total) ∙ d))
            where
              zero-is : (k : ℕ) → 0 ≡ k + 1 → ⊥
              zero-is k f = absurd (omega arith)

  one-less : (n m : ℕ) → suc n ≡ count_of size (size + m) → n ≡ count_of size m
  one-less n m e = less ((m + pred size) / size) (e ∙ ap (λ k. k / size) order ∙ add-div_left (m + pred size) (omega (arith, is-size)))
    where
      order : size + m + pred size ≡ size + (m + pred size)
      order = omega arith

      less : (k : ℕ) → suc n ≡ k + 1 → n ≡ k
      less k d = omega arith

  one-left : (n m : ℕ) → m < size → suc n ≡ count_of size m → (n ≡ 0) × (0 < m)
  one-left n m below e = by (cases_lt 0 m)
    where
      by : (0 < m) ⊎ (m ≤ 0) → (n ≡ 0) × (0 < m)
      by (inl some) = (zero-is (e ∙ div-eq_of_lt-le {k = 1} size (omega (arith, is-size)) (omega (arith, is-size))), some)
        where
          zero-is : suc n ≡ 1 → n ≡ 0
          zero-is d = omega arith
      by (inr nothing) = absurd (suc-is (e ∙ div-eq_of_lt (omega (arith, is-size))))
        where
          suc-is : suc n ≡ 0 → ⊥
          suc-is d = absurd (omega arith)

  -- a file that ends within its first line lacks just the newline
  lacks-newline : (m : ℕ) → m < size → 0 < m → is_whole (slots_of inputs) m ≡ true → (suc m ≡ size) × (1 < size)
  lacks-newline m below some whole = by (or-cases (m == 0) (nat_lt 1 size && suc m == size) (ap (λ k. k == 0 || (nat_lt 1 size && suc k == size)) (sym (mod-eq_of_lt below)) ∙ whole))
    where
      by : ((m == 0) ≡ true) ⊎ ((nat_lt 1 size && suc m == size) ≡ true) → (suc m ≡ size) × (1 < size)
      by (inl e) = absurd (not-zero (equal m 0 e))
        where
          not-zero : m ≡ 0 → ⊥
          not-zero d = absurd (omega arith)
      by (inr e) = (grind (arith, nat_tests), omega arith)

  -- the first line of a file, given what is said of the file behind it
  by-line : (n : ℕ) (bytes : List ℕ) → suc n ≡ count_of size (length bytes) → Keeps (slots_of inputs) bytes
      → (n ≡ count_of size (length (drop size bytes)) → Keeps (slots_of inputs) (drop size bytes) → RowsText inputs (drop size bytes) (rows_in n inputs size (drop size bytes)))
      → (length bytes < size) ⊎ (size ≤ length bytes) → RowsText inputs bytes (row_in inputs bytes ∷ rows_in n inputs size (drop size bytes))
  by-line n bytes e kept behind-it (inl below) =
      let left = one-left n (length bytes) below e in
      let lacks = lacks-newline (length bytes) below left.1 kept.ends in
      subst (λ m. RowsText inputs bytes (row_in inputs bytes ∷ rows_in m inputs size (drop size bytes))) (sym left.0) (only-line bytes lacks.0 lacks.1 kept)
  by-line n bytes e kept behind-it (inr above) =
      subst (λ b. RowsText inputs b (row_in inputs b ∷ rows_in n inputs size (drop size bytes))) parts
      (with-line (take size bytes) (drop size bytes) (rows_in n inputs size (drop size bytes)) (first-line (take size bytes) (drop size bytes) front in-parts)
      (behind-it (one-less n (length (drop size bytes)) (e ∙ ap (count_of size) lengths)) (kept-behind (take size bytes) (drop size bytes) front in-parts)))
    where
      parts : take size bytes ++ drop size bytes ≡ bytes
      parts = take-append-drop size bytes

      front : length (take size bytes) ≡ size
      front = length-take-le size bytes above

      in-parts : Keeps (slots_of inputs) (take size bytes ++ drop size bytes)
      in-parts = subst (Keeps (slots_of inputs)) (sym parts) kept

      lengths : length bytes ≡ size + length (drop size bytes)
      lengths = omega (arith, length-drop size bytes)

  pub whole : (n : ℕ) (bytes : List ℕ) → n ≡ count_of size (length bytes) → Keeps (slots_of inputs) bytes → RowsText inputs bytes (rows_in n inputs size bytes)
  whole zero bytes e kept = nothing bytes (none-left (length bytes) e)
    where
      nothing : (bytes : List ℕ) → length bytes ≡ 0 → RowsText inputs bytes []
      nothing [] d = record { fit = All-nil (RowFits inputs); text = inl refl }
      nothing (b ∷ bytes) d = absurd (omega arith)
  whole (suc n) bytes e kept = by-line n bytes e kept (λ d k. whole n (drop size bytes) d k) (cases_lt (length bytes) size)

pub length-rows : (n : ℕ) (inputs : List Port) (size : ℕ) (bytes : List ℕ) → length (rows_in n inputs size bytes) ≡ n
length-rows zero inputs size bytes = refl
length-rows (suc n) inputs size bytes = ap suc (length-rows n inputs size (drop size bytes))
