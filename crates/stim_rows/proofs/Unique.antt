-- The text of rows departs nowhere, and is that of no other rows.
use Rattle.std.proofs.Common.{◌≡◌, ◌⊎◌, inl, inr, refl, sym, ◌∙◌, ap, subst, ℕ, zero, suc, pred, ◌+◌, ◌-◌, ◌*◌, ◌/◌, ◌%◌, ◌≤◌, ◌<◌, nat_lt, true, ◌||◌, ◌&&◌, ◌==◌, List, [], ◌∷◌, ◌++◌, map, length, reverse, take, drop, arith, true≢false}
use Rattle.std.specs.Prelude.{All, slice_get}
use Rattle.std.specs.List.{AllZip}
use Rattle.std.proofs.Math.Nat.{mod-eq_of_lt, add-mod_right, suc-mul, zero-mul, mul-div_cancel}
use Rattle.std.proofs.lemmas.List.{append_assoc, length-append, reverse-reverse, length-map, length-reverse}
use Rattle.std.proofs.lemmas.List.Elements.{All-head, All-tail}
use Rattle.std.proofs.lemmas.Bool.{cases_lt}
use Rattle.std.proofs.lemmas.Bool.Decides.{nat_tests}
use Rattle.b4_core.specs.declared.bit.Bit4.{Bit4}
use Rattle.b4_core.specs.declared.bit.Bit4.TheVariants.{Zero, One, X, Z}
use Rattle.stim_rows.specs.declared.shape.Port.{Port}
use Rattle.stim_rows.specs.declared.slots.Slot.{Slot}
use Rattle.stim_rows.specs.declared.slots.Slot.TheVariants.{Space, LineEnd}
use Rattle.stim_rows.specs.Slots.{behind, joined, width, slot_of, port_slots, slots_of}
use Rattle.stim_rows.specs.RowFiles.{digit, vector_text, line_text, text_of, BitFits, PortTakes, RowFits, IsText, RowsText}
use Rattle.stim_rows.specs.Departures.{is_taken, is_whole, Keeps, DepartsAt}
use Rattle.stim_rows.specs.Reading.{bit_of, vector_in, row_in, rows_in}
use Rattle.stim_rows.proofs.Zips.{map-reverse, zip-length, zip-reverse}
use Rattle.stim_rows.proofs.Ports.{Stands, ap2, front-vector, behind-vector}
use Rattle.stim_rows.proofs.Whole.{found, get-front, get-behind, is-size}

-- a bit that fits stands in its place
bit-stands : (m b : Bit4) → BitFits m b → Stands (slot_of m) (digit b)
bit-stands Zero Zero f = refl
bit-stands Zero One f = refl
bit-stands Zero X f = refl
bit-stands Zero Z f = refl
bit-stands X Zero f = refl
bit-stands X One f = refl
bit-stands X X f = refl
bit-stands X Z f = refl
bit-stands Z Zero f = refl
bit-stands Z One f = refl
bit-stands Z X f = refl
bit-stands Z Z f = refl
bit-stands One Zero f = refl
bit-stands One One f = refl
bit-stands One X f = absurd f
bit-stands One Z f = absurd f

bits-stand : (marks v : List Bit4) → AllZip BitFits marks v → AllZip Stands (map slot_of marks) (map digit v)
bits-stand [] [] z = tt
bits-stand [] (b ∷ v) z = absurd z
bits-stand (m ∷ marks) [] z = absurd z
bits-stand (m ∷ marks) (b ∷ v) z = (bit-stands m b z.0, bits-stand marks v z.1)

zip-append : (xs xs' : List Slot) (ys ys' : List ℕ) → AllZip Stands xs ys → AllZip Stands xs' ys' → AllZip Stands (xs ++ xs') (ys ++ ys')
zip-append [] xs' [] ys' z z' = z'
zip-append [] xs' (y ∷ ys) ys' z z' = absurd z
zip-append (x ∷ xs) xs' [] ys' z z' = absurd z
zip-append (x ∷ xs) xs' (y ∷ ys) ys' z z' = (z.0, zip-append xs xs' ys ys' z.1 z')

vector-stands : (port : Port) (v : List Bit4) → PortTakes port v → AllZip Stands (port_slots port) (vector_text v)
vector-stands port v z = bits-stand (reverse port.two_state) (reverse v) (zip-reverse BitFits port.two_state v z)

further-stand : (ports : List Port) (row : List (List Bit4)) → RowFits ports row → AllZip Stands (behind Space (map port_slots ports)) (behind 32 (map vector_text row))
further-stand [] [] z = tt
further-stand [] (v ∷ row) z = absurd z
further-stand (p ∷ ports) [] z = absurd z
further-stand (p ∷ ports) (v ∷ row) z =
    (refl, zip-append (port_slots p) (behind Space (map port_slots ports)) (vector_text v) (behind 32 (map vector_text row)) (vector-stands p v z.0) (further-stand ports row z.1))

row-stands : (inputs : List Port) (row : List (List Bit4)) → RowFits inputs row → AllZip Stands (joined Space (map port_slots inputs)) (joined 32 (map vector_text row))
row-stands [] [] z = tt
row-stands [] (v ∷ row) z = absurd z
row-stands (p ∷ ports) [] z = absurd z
row-stands (p ∷ ports) (v ∷ row) z =
    zip-append (port_slots p) (behind Space (map port_slots ports)) (vector_text v) (behind 32 (map vector_text row)) (vector-stands p v z.0) (further-stand ports row z.1)

found-in : (slots : List Slot) (line : List ℕ) (j : ℕ) → AllZip Stands slots line → j < length slots → found slots (slice_get line j) j ≡ true
found-in [] line j z below = absurd (omega arith)
found-in (s ∷ slots) [] j z below = absurd z
found-in (s ∷ slots) (b ∷ line) zero z below = z.0
found-in (s ∷ slots) (b ∷ line) (suc j) z below = found-in slots line j z.1 (omega arith)

-- a vector is read back from its text
digit-back : (b : Bit4) → bit_of (digit b) ≡ b
digit-back Zero = refl
digit-back One = refl
digit-back X = refl
digit-back Z = refl

digits-back : (v : List Bit4) → map bit_of (map digit v) ≡ v
digits-back [] = refl
digits-back (b ∷ v) = ap2 (λ x l. x ∷ l) (digit-back b) (digits-back v)

vector-read : (v : List Bit4) → vector_in (vector_text v) ≡ v
vector-read v = ap (map bit_of) (sym (map-reverse digit (reverse v)) ∙ ap (map digit) (reverse-reverse v)) ∙ digits-back v

text-width : (port : Port) (v : List Bit4) → PortTakes port v → length (vector_text v) ≡ width port
text-width port v z = length-map (reverse v) digit ∙ length-reverse v ∙ zip-length BitFits port.two_state v z

module _ (more : List ℕ) where
  first-read : (port : Port) (ports : List Port) (v : List Bit4) (row : List (List Bit4)) → PortTakes port v
      → row_in ports (drop 1 (behind 32 (map vector_text row) ++ more)) ≡ row
      → row_in (port ∷ ports) ((vector_text v ++ behind 32 (map vector_text row)) ++ more) ≡ v ∷ row
  first-read port ports v row z others =
      let tail = behind 32 (map vector_text row) in
      let is : (vector_text v ++ tail) ++ more ≡ vector_text v ++ (tail ++ more) = append_assoc (vector_text v) tail more in
      let size = text-width port v z in
      ap2 (λ x l. x ∷ l)
      (ap (λ l. vector_in (take (width port) l)) is ∙ ap vector_in (front-vector port (vector_text v) (tail ++ more) size) ∙ vector-read v)
      (ap (λ l. row_in ports (drop 1 (drop (width port) l))) is ∙ ap (λ l. row_in ports (drop 1 l)) (behind-vector port (vector_text v) (tail ++ more) size) ∙ others)

  further-read : (ports : List Port) (row : List (List Bit4)) → RowFits ports row → row_in ports (drop 1 (behind 32 (map vector_text row) ++ more)) ≡ row
  further-read [] [] z = refl
  further-read [] (v ∷ row) z = absurd z
  further-read (p ∷ ports) [] z = absurd z
  further-read (p ∷ ports) (v ∷ row) z = first-read p ports v row z.0 (further-read ports row z.1)

  row-read : (inputs : List Port) (row : List (List Bit4)) → RowFits inputs row → row_in inputs (joined 32 (map vector_text row) ++ more) ≡ row
  row-read [] [] z = refl
  row-read [] (v ∷ row) z = absurd z
  row-read (p ∷ ports) [] z = absurd z
  row-read (p ∷ ports) (v ∷ row) z = first-read p ports v row z.0 (further-read ports row z.1)

drop-length : (xs ys : List ℕ) (n : ℕ) → length xs ≡ n → drop n (xs ++ ys) ≡ ys
drop-length [] ys zero e = refl
drop-length [] ys (suc n) e = absurd (omega arith)
drop-length (x ∷ xs) ys zero e = absurd (omega arith)
drop-length (x ∷ xs) ys (suc n) e = drop-length xs ys n (omega arith)

module _ (inputs : List Port) where
  abbrev size : ℕ
  size = length (slots_of inputs)

  line-stands : (row : List (List Bit4)) → RowFits inputs row → AllZip Stands (slots_of inputs) (line_text row)
  line-stands row z = zip-append (joined Space (map port_slots inputs)) (LineEnd ∷ []) (joined 32 (map vector_text row)) (10 ∷ []) (row-stands inputs row z) (refl, tt)

  line-size : (row : List (List Bit4)) → RowFits inputs row → length (line_text row) ≡ size
  line-size row z = zip-length Stands (slots_of inputs) (line_text row) (line-stands row z)

  some : 0 < size
  some = omega (arith, is-size inputs)

  -- the place of a byte behind a line
  shifted : (line rest : List ℕ) (j : ℕ) → length line ≡ size → is_taken (slots_of inputs) (line ++ rest) (j + length line) ≡ is_taken (slots_of inputs) rest j
  shifted line rest j e =
      ap2 (found (slots_of inputs)) (get-behind line rest j (j + length line) refl) (ap (λ n. (j + n) % size) e ∙ add-mod_right j size)

  taken-by : (row : List (List Bit4)) (rows : List (List (List Bit4))) (j : ℕ) → RowFits inputs row → j < length (line_text row ++ text_of rows)
      → ((k : ℕ) → k < length (text_of rows) → is_taken (slots_of inputs) (text_of rows) k ≡ true)
      → (j < size) ⊎ (size ≤ j) → is_taken (slots_of inputs) (line_text row ++ text_of rows) j ≡ true
  taken-by row rows j fits below others (inl front) =
      ap2 (found (slots_of inputs)) (get-front (line_text row) (text_of rows) j (omega (arith, line-size row fits))) (mod-eq_of_lt front)
      ∙ found-in (slots_of inputs) (line_text row) j (line-stands row fits) front
  taken-by row rows j fits below others (inr back) =
      ap (is_taken (slots_of inputs) (line_text row ++ text_of rows)) place
      ∙ shifted (line_text row) (text_of rows) (j - size) (line-size row fits)
      ∙ others (j - size) (omega (arith, line-size row fits, length-append (line_text row) (text_of rows)))
    where
      place : j ≡ (j - size) + length (line_text row)
      place = omega (arith, line-size row fits)

  taken : (rows : List (List (List Bit4))) → All (RowFits inputs) rows → (j : ℕ) → j < length (text_of rows) → is_taken (slots_of inputs) (text_of rows) j ≡ true
  taken [] fit j below = absurd (omega arith)
  taken (row ∷ rows) fit j below =
      taken-by row rows j (All-head (RowFits inputs) row rows fit) below (λ k less. taken rows (All-tail (RowFits inputs) row rows fit) k less) (cases_lt j size)

  lengths : (rows : List (List (List Bit4))) → All (RowFits inputs) rows → length (text_of rows) ≡ length rows * size
  lengths [] fit = sym (zero-mul size)
  lengths (row ∷ rows) fit =
      length-append (line_text row) (text_of rows)
      ∙ ap2 (λ x y. x + y) (line-size row (All-head (RowFits inputs) row rows fit)) (lengths rows (All-tail (RowFits inputs) row rows fit))
      ∙ one-more
    where
      one-more : size + length rows * size ≡ suc (length rows) * size
      one-more = omega (arith, suc-mul (length rows) size)

  -- whole lines end at a line's start, and one byte before that is the newline's place
  at-start : (n m : ℕ) → m ≡ n * size → m % size ≡ 0
  at-start zero m e = ap (λ k. k % size) (omega (arith, zero-mul size)) ∙ mod-eq_of_lt some
  at-start (suc n) m e = ap (λ k. k % size) more ∙ add-mod_right (n * size) size ∙ at-start n (n * size) refl
    where
      more : m ≡ n * size + size
      more = omega (arith, suc-mul n size)

  at-end : (n m : ℕ) → suc m ≡ n * size → m % size ≡ pred size
  at-end zero m e = absurd (omega (arith, zero-mul size))
  at-end (suc zero) m e = mod-eq_of_lt (omega (arith, suc-mul zero size, zero-mul size)) ∙ omega (arith, suc-mul zero size, zero-mul size)
  at-end (suc (suc n)) m e = ap (λ k. k % size) more ∙ add-mod_right (m - size) size ∙ at-end (suc n) (m - size) (omega (arith, suc-mul (suc n) size, suc-mul n size, some))
    where
      more : m ≡ (m - size) + size
      more = omega (arith, suc-mul (suc n) size, suc-mul n size, some)

  whole-at-start : (m : ℕ) → m % size ≡ 0 → is_whole (slots_of inputs) m ≡ true
  whole-at-start m e = ap (λ k. k == 0 || (nat_lt 1 size && suc k == size)) e

  whole-at-end : (m : ℕ) → 1 < size → m % size ≡ pred size → is_whole (slots_of inputs) m ≡ true
  whole-at-end m more e = ap (λ k. k == 0 || (nat_lt 1 size && suc k == size)) e ∙ ended
    where
      ended : (pred size == 0 || (nat_lt 1 size && suc (pred size) == size)) ≡ true
      ended = grind (arith, nat_tests)

  rows-keep : (bytes : List ℕ) (rows : List (List (List Bit4))) → All (RowFits inputs) rows → IsText inputs bytes (text_of rows) → Keeps (slots_of inputs) bytes
  rows-keep bytes rows fit (inl e) = record {
    taken = λ j below. ap (λ b. is_taken (slots_of inputs) b j) e ∙ taken rows fit j (subst (λ b. j < length b) e below);
    ends = whole-at-start (length bytes) (at-start (length rows) (length bytes) (ap length e ∙ lengths rows fit));
  }
  rows-keep bytes rows fit (inr e) = record {
    taken = λ j below.
        ap (λ o. found (slots_of inputs) o (j % size)) (sym (get-front bytes (10 ∷ []) j below))
        ∙ ap (λ b. is_taken (slots_of inputs) b j) e.1 ∙ taken rows fit j (subst (λ b. j < length b) e.1 (omega (arith, length-append bytes (10 ∷ []))));
    ends = whole-at-end (length bytes) e.0 (at-end (length rows) (length bytes) (one (length bytes) ∙ sym (length-append bytes (10 ∷ [])) ∙ ap length e.1 ∙ lengths rows fit));
  }
    where
      one : (k : ℕ) → suc k ≡ k + 1
      one k = omega arith

  -- rows are read back from their text
  rows-read : (rows : List (List (List Bit4))) → All (RowFits inputs) rows → rows_in (length rows) inputs size (text_of rows) ≡ rows
  rows-read [] fit = refl
  rows-read (row ∷ rows) fit =
      let fits = All-head (RowFits inputs) row rows fit in
      ap2 (λ x l. x ∷ l)
      (ap (row_in inputs) (append_assoc (joined 32 (map vector_text row)) (10 ∷ []) (text_of rows)) ∙ row-read (10 ∷ text_of rows) inputs row fits)
      (ap (rows_in (length rows) inputs size) (drop-length (line_text row) (text_of rows) size (line-size row fits)) ∙ rows-read rows (All-tail (RowFits inputs) row rows fit))

  same-rows : (rows others : List (List (List Bit4))) → All (RowFits inputs) rows → All (RowFits inputs) others → text_of rows ≡ text_of others → rows ≡ others
  same-rows rows others fit fit' e =
      sym (rows-read rows fit) ∙ ap2 (λ n b. rows_in n inputs size b) (same-count (length rows) (length others) (sym (lengths rows fit) ∙ ap length e ∙ lengths others fit')) e ∙ rows-read others fit'
    where
      same-count : (n m : ℕ) → n * size ≡ m * size → n ≡ m
      same-count n m d = sym (mul-div_cancel n some) ∙ ap (λ k. k / size) d ∙ mul-div_cancel m some

  not-both : (bytes : List ℕ) (rows others : List (List (List Bit4))) → All (RowFits inputs) rows → All (RowFits inputs) others
      → bytes ≡ text_of rows → 1 < size → bytes ++ 10 ∷ [] ≡ text_of others → ⊥
  not-both bytes rows others fit fit' e more d =
      differ (at-start (length rows) (length bytes) (ap length e ∙ lengths rows fit))
      (at-end (length others) (length bytes) (one (length bytes) ∙ sym (length-append bytes (10 ∷ [])) ∙ ap length d ∙ lengths others fit'))
    where
      one : (k : ℕ) → suc k ≡ k + 1
      one k = omega arith

      differ : length bytes % size ≡ 0 → length bytes % size ≡ pred size → ⊥
      differ z p = absurd (none (sym z ∙ p))
        where
          none : 0 ≡ pred size → ⊥
          none q = absurd (omega arith)

  one-reading : (bytes : List ℕ) (rows others : List (List (List Bit4))) → All (RowFits inputs) rows → All (RowFits inputs) others
      → IsText inputs bytes (text_of rows) → IsText inputs bytes (text_of others) → rows ≡ others
  one-reading bytes rows others fit fit' (inl e) (inl d) = same-rows rows others fit fit' (sym e ∙ d)
  one-reading bytes rows others fit fit' (inr e) (inr d) = same-rows rows others fit fit' (sym e.1 ∙ d.1)
  one-reading bytes rows others fit fit' (inl e) (inr d) = absurd (not-both bytes rows others fit fit' e d.0 d.1)
  one-reading bytes rows others fit fit' (inr e) (inl d) = absurd (not-both bytes others rows fit' fit d e.0 e.1)

pub rows_keep_form : (inputs : List Port) (bytes : List ℕ) (rows : List (List (List Bit4))) → RowsText inputs bytes rows → Keeps (slots_of inputs) bytes
rows_keep_form inputs bytes rows r = rows-keep inputs bytes rows r.fit r.text

pub none_departs_there : (inputs : List Port) (bytes : List ℕ) (rows : List (List (List Bit4))) (k : ℕ) → RowsText inputs bytes rows → DepartsAt (slots_of inputs) bytes k → ⊥
none_departs_there inputs bytes rows k r departs = by (cases_lt k (length bytes))
  where
    kept : Keeps (slots_of inputs) bytes
    kept = rows_keep_form inputs bytes rows r

    by : (k < length bytes) ⊎ (length bytes ≤ k) → ⊥
    by (inl below) = absurd (true≢false (sym (kept.taken k below) ∙ departs.not_taken))
    by (inr above) = absurd (true≢false (sym (ap (is_whole (slots_of inputs)) at-length ∙ kept.ends) ∙ departs.not_an_end at-length))
      where
        at-length : k ≡ length bytes
        at-length = omega (arith, departs.within)

pub one_reading_alone : (inputs : List Port) (bytes : List ℕ) (rows others : List (List (List Bit4))) → RowsText inputs bytes rows → RowsText inputs bytes others → rows ≡ others
one_reading_alone inputs bytes rows others r o = one-reading inputs bytes rows others r.fit o.fit r.text o.text
