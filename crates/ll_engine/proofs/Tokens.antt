-- Texts that begin with the same tokens.
use Rattle.std.proofs.Common.{◌≡◌, ◌++◌, ◌<◌, ◌-◌, ℕ, zero, suc, List, [], ◌∷◌, Some, refl, ap, take, drop, map, length, slice_get, arith}
use Rattle.ll_engine.specs.Reading.{Nested, at_nesting, next}
use Rattle.ll_engine.specs.Texts.{symbol_of, Agrees, Within}
use Rattle.ll_engine.proofs.Rooms.{rooms}

pub agrees_less : (n : ℕ) (w : List Nested) (ss : List ℕ) → Agrees (suc n) w ss → Agrees n w ss
agrees_less zero w ss a = tt
agrees_less (suc n) [] [] a = tt
agrees_less (suc n) [] (s ∷ ss) a = a
agrees_less (suc n) (at_nesting s d ∷ w) [] a = a
agrees_less (suc n) (at_nesting s d ∷ w) (b ∷ ss) a = (a.0, agrees_less n w ss a.1)

pub agrees-rooms : (f : ℕ → ℕ) (n : ℕ) (w : List Nested) (ss : List ℕ) → Agrees n w ss → Agrees n (rooms f w) ss
agrees-rooms f zero w ss a = tt
agrees-rooms f (suc n) [] [] a = tt
agrees-rooms f (suc n) [] (s ∷ ss) a = a
agrees-rooms f (suc n) (at_nesting s d ∷ w) [] a = a
agrees-rooms f (suc n) (at_nesting s d ∷ w) (b ∷ ss) a = (a.0, agrees-rooms f n w ss a.1)

pub agrees_origin : (f : ℕ → ℕ) (n : ℕ) (w : List Nested) (ss : List ℕ) → Agrees n (rooms f w) ss → Agrees n w ss
agrees_origin f zero w ss a = tt
agrees_origin f (suc n) [] [] a = tt
agrees_origin f (suc n) [] (s ∷ ss) a = a
agrees_origin f (suc n) (at_nesting s d ∷ w) [] a = a
agrees_origin f (suc n) (at_nesting s d ∷ w) (b ∷ ss) a = (a.0, agrees_origin f n w ss a.1)

-- what is spelled agrees, whatever comes behind it
pub agrees_before : (b v : List Nested) (ss : List ℕ) → map symbol_of b ≡ take (length b) ss → Agrees (length b) (b ++ v) ss
agrees_before [] v ss e = tt
agrees_before (at_nesting s d ∷ b) v [] e = cc
agrees_before (at_nesting s d ∷ b) v (a ∷ ss) e =
    let h : s ≡ a = cc in
    let r : map symbol_of b ≡ take (length b) ss = cc in
    (h, agrees_before b v ss r)

-- one token more is the next
pub agrees_next : (b v : List Nested) (ss : List ℕ) → Agrees (suc (length b)) (b ++ v) ss → next v ≡ slice_get ss (length b)
agrees_next [] [] [] a = refl
agrees_next [] [] (s ∷ ss) a = absurd a
agrees_next [] (at_nesting s d ∷ v) [] a = absurd a
agrees_next [] (at_nesting s d ∷ v) (b ∷ ss) a = ap Some a.0
agrees_next (at_nesting s d ∷ b) v [] a = absurd a
agrees_next (at_nesting s d ∷ b) v (c ∷ ss) a = agrees_next b v ss a.1

pub agrees_at : (b v : List Nested) (ss : List ℕ) → map symbol_of b ≡ take (length b) ss → next v ≡ slice_get ss (length b)
    → Agrees (suc (length b)) (b ++ v) ss
agrees_at [] [] [] e n = tt
agrees_at [] [] (s ∷ ss) e n = cc
agrees_at [] (at_nesting s d ∷ v) [] e n = cc
agrees_at [] (at_nesting s d ∷ v) (a ∷ ss) e n = let h : s ≡ a = cc in (h, tt)
agrees_at (at_nesting s d ∷ b) v [] e n = cc
agrees_at (at_nesting s d ∷ b) v (a ∷ ss) e n =
    let h : s ≡ a = cc in
    let r : map symbol_of b ≡ take (length b) ss = cc in
    (h, agrees_at b v ss r n)

pub take_next : (n a : ℕ) (ss : List ℕ) → slice_get ss n ≡ Some a → take (suc n) ss ≡ take n ss ++ a ∷ []
take_next zero a [] e = cc
take_next zero a (s ∷ ss) e = let h : s ≡ a = cc in ap (λ q. q ∷ []) h
take_next (suc n) a [] e = cc
take_next (suc n) a (s ∷ ss) e = ap (λ q. s ∷ q) (take_next n a ss e)

pub symbols-rooms : (f : ℕ → ℕ) (w : List Nested) → map symbol_of (rooms f w) ≡ map symbol_of w
symbols-rooms f [] = refl
symbols-rooms f (at_nesting s n ∷ w) = ap (λ q. s ∷ q) (symbols-rooms f w)

abbrev pub room_left : ℕ → ℕ → ℕ
room_left limit n = suc limit - n

abbrev pub HasRoom : List Nested → Type 0
HasRoom [] = Unit {0}
HasRoom (at_nesting s n ∷ w) = (0 < n) × HasRoom w

-- what has room left is within the limit
pub within_of : (limit : ℕ) (b v w : List Nested) → rooms (room_left limit) w ≡ b ++ v
    → HasRoom b → Within limit (take (length b) w)
within_of limit [] v w e a = tt
within_of limit (x ∷ b) v [] e a = cc
within_of limit (at_nesting c r ∷ b) v (at_nesting s n ∷ w) e a =
    let h : suc limit - n ≡ r = cc in
    let g : rooms (room_left limit) w ≡ b ++ v = cc in
    let p : 0 < r = a.0 in
    (omega (arith, p, h), within_of limit b v w g a.1)

pub all_within : (limit : ℕ) (w : List Nested) → HasRoom (rooms (room_left limit) w) → Within limit w
all_within limit [] a = tt
all_within limit (at_nesting s n ∷ w) a = let p : 0 < suc limit - n = a.0 in (omega (arith, p), all_within limit w a.1)

-- the token that has no room
pub record NoRoom (limit at : ℕ) (w : List Nested) : Type 0 where
  pub symbol : ℕ
  pub nesting : ℕ
  pub rest : List Nested
  pub is_at : drop at w ≡ at_nesting symbol nesting ∷ rest
  pub passes : limit < nesting

pub no_room : (limit a : ℕ) (b v w : List Nested) → rooms (room_left limit) w ≡ b ++ (at_nesting a 0 ∷ v)
    → NoRoom limit (length b) w
no_room limit a [] v [] e = cc
no_room limit a [] v (at_nesting s n ∷ w) e =
    let p : suc limit - n ≡ 0 = cc in
    record { symbol = s; nesting = n; rest = w; is_at = refl; passes = omega (arith, p) }
no_room limit a (x ∷ b) v [] e = cc
no_room limit a (x ∷ b) v (at_nesting s n ∷ w) e =
    let r : rooms (room_left limit) w ≡ b ++ (at_nesting a 0 ∷ v) = cc in
    let m = no_room limit a b v w r in
    record { symbol = m.symbol; nesting = m.nesting; rest = m.rest; is_at = m.is_at; passes = m.passes }

pub has_room-push : (b : List Nested) (s n : ℕ) → HasRoom b → 0 < n → HasRoom (b ++ at_nesting s n ∷ [])
has_room-push [] s n a p = (p, tt)
has_room-push (at_nesting c r ∷ b) s n a p = (a.0, has_room-push b s n a.1 p)
