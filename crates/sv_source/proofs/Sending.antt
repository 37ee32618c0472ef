-- Bytes put on a sink piece by piece.
use Rattle.std.proofs.Common.{◌≡◌, ℕ, ◌+◌, ◌-◌, ◌<◌, ◌≤◌, List, [], ◌++◌, length, drop, get_or, add-one, drop-cons, Option, Some, None, refl, sym, ap, ◌∙◌, arith, append_assoc, length-append}
use Rattle.std.proofs.lemmas.Grind.{common_steps}
use Rattle.std.specs.List.{flat_map}
use Rattle.sv_source.specs.Putting.{appended, GainsFront}

pub appended-appended : (written : Option (List ℕ)) (xs ys : List ℕ) → appended (appended written xs) ys ≡ appended written (xs ++ ys)
appended-appended None xs ys = refl
appended-appended (Some written) xs ys = ap Some (append_assoc written xs ys)

pub appended-none : (written : Option (List ℕ)) → appended written [] ≡ written
appended-none None = refl
appended-none (Some written) = grind (arith, common_steps)

-- the next part, and those behind it
pub flat_map-drop : {X : Type 0} (f : X → List ℕ) (xs : List X) (i : ℕ) (d : X) → i < length xs → flat_map f (drop i xs) ≡ f (get_or xs i d) ++ flat_map f (drop (i + 1) xs)
flat_map-drop f xs i d within = rw (add-one, drop-cons xs i d within)

-- some way through the bytes: a front was put without a fault, and this is left
pub record Sent (before now : Option (List ℕ)) (faults faults_now spare spare_now : ℕ) (bytes rest : List ℕ) : Type 0 where
  pub front : List ℕ
  pub whole : bytes ≡ front ++ rest
  pub gained : now ≡ appended before front
  pub level : faults_now ≡ faults
  pub room : length bytes ≤ spare → spare_now ≡ spare - length front

pub sent_none : (before : Option (List ℕ)) (faults spare : ℕ) (bytes : List ℕ) → Sent before before faults faults spare spare bytes bytes
sent_none before faults spare bytes = record {
  front = [];
  whole = refl;
  gained = sym (appended-none before);
  level = refl;
  room = λ fits. omega arith;
}

module _ (before now : Option (List ℕ)) (faults faults_now spare spare_now : ℕ) (bytes left piece rest : List ℕ)
    (s : Sent before now faults faults_now spare spare_now bytes left) (next : left ≡ piece ++ rest) where
  split : bytes ≡ s.front ++ (piece ++ rest)
  split = s.whole ∙ ap (λ xs. s.front ++ xs) next

  -- the next piece is within the room, if the whole is
  pub sent_fits : length bytes ≤ spare → length piece ≤ spare_now
  sent_fits fits =
      let room : spare_now ≡ spare - length s.front = s.room fits in
      omega (arith, ap length split, length-append s.front (piece ++ rest), length-append piece rest)

  -- one more piece was put
  pub sent_more : (after : Option (List ℕ)) (faults_after spare_after : ℕ) → after ≡ appended now piece → faults_after ≡ faults_now →
      (length piece ≤ spare_now → spare_after ≡ spare_now - length piece) →
      Sent before after faults faults_after spare spare_after bytes rest
  sent_more after faults_after spare_after gained level room = record {
    front = s.front ++ piece;
    whole = split ∙ sym (append_assoc s.front piece rest);
    gained = gained ∙ ap (λ w. appended w piece) s.gained ∙ appended-appended before s.front piece;
    level = level ∙ s.level;
    room = λ fits.
        let fits_now : length piece ≤ spare_now = sent_fits fits in
        let was : spare_now ≡ spare - length s.front = s.room fits in
        let is : spare_after ≡ spare_now - length piece = room fits_now in
        omega (arith, length-append s.front piece);
  }

  -- the next piece failed
  pub sent_cut : (after : Option (List ℕ)) → GainsFront now after piece → GainsFront before after bytes
  sent_cut after cut = record {
    front = s.front ++ cut.front;
    rest = cut.rest ++ rest;
    whole = split ∙ ap (λ xs. s.front ++ (xs ++ rest)) cut.whole ∙ simp append_assoc;
    gained = cut.gained ∙ ap (λ w. appended w cut.front) s.gained ∙ appended-appended before s.front cut.front;
  }
