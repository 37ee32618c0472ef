-- A line whose bytes stand where they may holds a vector for each input, and is the line of these vectors.
use Rattle.std.proofs.Common.{◌≡◌, ◌⊎◌, inl, inr, refl, sym, ◌∙◌, ap, subst, ℕ, Bool, true, false, ◌||◌, ◌==◌, List, [], ◌∷◌, ◌++◌, reverse, map, length, take, drop, arith}
use Rattle.std.specs.List.{AllZip}
use Rattle.std.proofs.Math.Seq.{take-append_seam, drop-append_seam}
use Rattle.std.proofs.lemmas.List.{reverse-reverse, length-reverse, length-map, append_assoc}
use Rattle.std.proofs.lemmas.Bool.Decides.{nat_tests}
use Rattle.b4_core.specs.declared.bit.Bit4.{Bit4}
use Rattle.b4_core.specs.declared.bit.Bit4.TheVariants.{Zero, One, X, Z}
use Rattle.stim_rows.specs.declared.shape.Port.{Port}
use Rattle.stim_rows.specs.declared.slots.Slot.{Slot}
use Rattle.stim_rows.specs.declared.slots.Slot.TheVariants.{FourState, TwoState, Space}
use Rattle.stim_rows.specs.RowFiles.{digit, vector_text, BitFits, PortTakes, RowFits}
use Rattle.stim_rows.specs.Slots.{behind, joined, width, takes, slot_of, port_slots}
use Rattle.stim_rows.specs.Reading.{bit_of, vector_in, row_in}
use Rattle.stim_rows.proofs.Zips.{map-reverse, Parts, zip-length, zip-back, zip-parts}

abbrev pub Stands : Slot → ℕ → Type 0
Stands s byte = takes s byte ≡ true

pub ap2 : {A B C : Type 0} (f : A → B → C) {a b : A} {x y : B} → a ≡ b → x ≡ y → f a x ≡ f b y
ap2 f {a} {b} {x} {y} e d = ap (λ u. f u x) e ∙ ap (f b) d

pub or-cases : (a b : Bool) → (a || b) ≡ true → (a ≡ true) ⊎ (b ≡ true)
or-cases true b h = inl refl
or-cases false b h = inr h

pub equal : (a b : ℕ) → (a == b) ≡ true → a ≡ b
equal a b h = grind (arith, nat_tests)

module _ (byte : ℕ) where
  -- a digit is the digit of its bit
  at-digit : (n : ℕ) → digit (bit_of n) ≡ n → (byte == n) ≡ true → digit (bit_of byte) ≡ byte
  at-digit n same h = subst (λ m. digit (bit_of m) ≡ m) (sym (equal byte n h)) same

  pub is-digit : takes FourState byte ≡ true → digit (bit_of byte) ≡ byte
  is-digit h = of-four (or-cases (byte == 48 || byte == 49 || byte == 120) (byte == 122) h)
    where
      of-two : ((byte == 48) ≡ true) ⊎ ((byte == 49) ≡ true) → digit (bit_of byte) ≡ byte
      of-two (inl e) = at-digit 48 refl e
      of-two (inr e) = at-digit 49 refl e

      of-three : ((byte == 48 || byte == 49) ≡ true) ⊎ ((byte == 120) ≡ true) → digit (bit_of byte) ≡ byte
      of-three (inl e) = of-two (or-cases (byte == 48) (byte == 49) e)
      of-three (inr e) = at-digit 120 refl e

      of-four : ((byte == 48 || byte == 49 || byte == 120) ≡ true) ⊎ ((byte == 122) ≡ true) → digit (bit_of byte) ≡ byte
      of-four (inl e) = of-three (or-cases (byte == 48 || byte == 49) (byte == 120) e)
      of-four (inr e) = at-digit 122 refl e

  pub is-known-digit : takes TwoState byte ≡ true → digit (bit_of byte) ≡ byte
  is-known-digit h = of-two (or-cases (byte == 48) (byte == 49) h)
    where
      of-two : ((byte == 48) ≡ true) ⊎ ((byte == 49) ≡ true) → digit (bit_of byte) ≡ byte
      of-two (inl e) = at-digit 48 refl e
      of-two (inr e) = at-digit 49 refl e

  -- a byte that stands at the place of a bit is the digit of a bit that fits
  pub marked-digit : (mark : Bit4) → Stands (slot_of mark) byte → digit (bit_of byte) ≡ byte
  marked-digit Zero h = is-digit h
  marked-digit One h = is-known-digit h
  marked-digit X h = is-digit h
  marked-digit Z h = is-digit h

  pub marked-fits : (mark : Bit4) → Stands (slot_of mark) byte → BitFits mark (bit_of byte)
  marked-fits Zero h = tt
  marked-fits X h = tt
  marked-fits Z h = tt
  marked-fits One h = of-two (or-cases (byte == 48) (byte == 49) h)
    where
      of-two : ((byte == 48) ≡ true) ⊎ ((byte == 49) ≡ true) → BitFits One (bit_of byte)
      of-two (inl e) = subst (λ m. BitFits One (bit_of m)) (sym (equal byte 48 e)) tt
      of-two (inr e) = subst (λ m. BitFits One (bit_of m)) (sym (equal byte 49 e)) tt

-- a vector in the places of bits
pub digits-back : (marks : List Bit4) (text : List ℕ) → AllZip Stands (map slot_of marks) text → map digit (map bit_of text) ≡ text
digits-back [] [] z = refl
digits-back [] (b ∷ text) z = absurd z
digits-back (m ∷ marks) [] z = absurd z
digits-back (m ∷ marks) (b ∷ text) z = ap2 (λ x l. x ∷ l) (marked-digit b m z.0) (digits-back marks text z.1)

pub bits-fit : (marks : List Bit4) (text : List ℕ) → AllZip Stands (map slot_of marks) text → AllZip BitFits marks (map bit_of text)
bits-fit [] [] z = tt
bits-fit [] (b ∷ text) z = absurd z
bits-fit (m ∷ marks) [] z = absurd z
bits-fit (m ∷ marks) (b ∷ text) z = (marked-fits b m z.0, bits-fit marks text z.1)

module _ (port : Port) (text : List ℕ) (stand : AllZip Stands (port_slots port) text) where
  pub vector-back : vector_text (vector_in text) ≡ text
  vector-back =
      ap (map digit) (ap reverse (map-reverse bit_of text) ∙ reverse-reverse (map bit_of text)) ∙ digits-back (reverse port.two_state) text stand

  pub vector-fits : PortTakes port (vector_in text)
  vector-fits =
      subst (λ l. AllZip BitFits port.two_state l) (sym (map-reverse bit_of text))
      (zip-back BitFits port.two_state (map bit_of text) (bits-fit (reverse port.two_state) text stand))

  pub vector-length : length text ≡ width port
  vector-length = zip-length Stands (port_slots port) text stand ∙ length-map (reverse port.two_state) slot_of ∙ length-reverse port.two_state

-- the vector that begins a text, and what is behind it
pub front-vector : (port : Port) (text rest : List ℕ) → length text ≡ (width port) → take (width port) (text ++ rest) ≡ text
front-vector port text rest e = subst (λ n. take n (text ++ rest) ≡ text) e (take-append_seam text rest)

pub behind-vector : (port : Port) (text rest : List ℕ) → length text ≡ (width port) → drop (width port) (text ++ rest) ≡ rest
behind-vector port text rest e = subst (λ n. drop n (text ++ rest) ≡ rest) e (drop-append_seam text rest)

-- what a line holds, and that its text is as it was
pub record Holds (ports : List Port) (row : List (List Bit4)) (text : List (List ℕ) → List ℕ) (is : List ℕ) : Type 0 where
  pub fits : RowFits ports row
  pub same : text (map vector_text row) ≡ is

module _ (more : List ℕ) where
  -- a vector, and what is behind it
  vectors : (port : Port) (ports : List Port) (text : List ℕ)
      → ((back : List ℕ) → AllZip Stands (behind Space (map port_slots ports)) back → Holds ports (row_in ports (drop 1 (back ++ more))) (behind 32) back)
      → AllZip Stands (port_slots port ++ behind Space (map port_slots ports)) text
      → Holds (port ∷ ports) (row_in (port ∷ ports) (text ++ more)) (joined 32) text
  vectors port ports text others z = from (zip-parts Stands (port_slots port) (behind Space (map port_slots ports)) text z)
    where
      from : Parts (AllZip Stands (port_slots port)) (AllZip Stands (behind Space (map port_slots ports))) text
          → Holds (port ∷ ports) (row_in (port ∷ ports) (text ++ more)) (joined 32) text
      from parts =
          let size = vector-length port parts.front parts.in_front in
          let rest = others parts.back parts.in_back in
          let is : text ++ more ≡ parts.front ++ (parts.back ++ more) = ap (λ l. l ++ more) parts.are ∙ append_assoc parts.front parts.back more in
          let first : vector_in (take (width port) (text ++ more)) ≡ vector_in parts.front = ap (λ l. vector_in (take (width port) l)) is ∙ ap vector_in (front-vector port parts.front (parts.back ++ more) size) in
          let behind-it : row_in ports (drop 1 (drop (width port) (text ++ more))) ≡ row_in ports (drop 1 (parts.back ++ more)) = ap (λ l. row_in ports (drop 1 (drop (width port) l))) is ∙ ap (λ l. row_in ports (drop 1 l)) (behind-vector port parts.front (parts.back ++ more) size) in
          subst (λ row. Holds (port ∷ ports) row (joined 32) text) (sym (ap2 (λ x l. x ∷ l) first behind-it))
          (record { fits = (vector-fits port parts.front parts.in_front, rest.fits); same = ap2 (λ x y. x ++ y) (vector-back port parts.front parts.in_front) rest.same ∙ sym parts.are })

  pub further : (ports : List Port) (text : List ℕ) → AllZip Stands (behind Space (map port_slots ports)) text
      → Holds ports (row_in ports (drop 1 (text ++ more))) (behind 32) text
  further [] [] z = record { fits = tt; same = refl }
  further [] (b ∷ text) z = absurd z
  further (p ∷ ports) [] z = absurd z
  further (p ∷ ports) (b ∷ text) z =
      let in_line = vectors p ports text (λ back y. further ports back y) z.1 in
      record { fits = in_line.fits; same = ap2 (λ x l. x ∷ l) (sym (equal b 32 z.0)) in_line.same }

-- a line without its newline holds a row
pub row-of-body : (more : List ℕ) (inputs : List Port) (body : List ℕ) → AllZip Stands (joined Space (map port_slots inputs)) body
    → Holds inputs (row_in inputs (body ++ more)) (joined 32) body
row-of-body more [] [] z = record { fits = tt; same = refl }
row-of-body more [] (b ∷ body) z = absurd z
row-of-body more (p ∷ ports) body z = vectors more p ports body (λ back y. further more ports back y) z
