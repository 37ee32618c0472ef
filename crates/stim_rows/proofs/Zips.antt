-- Lists whose items stand in a relation place by place: parts of them, and both reversed.
use Rattle.std.proofs.Common.{◌≡◌, refl, sym, ◌∙◌, ap, subst, suc, List, [], ◌∷◌, ◌++◌, reverse, map, length}
use Rattle.std.specs.List.{AllZip}
use Rattle.std.proofs.lemmas.List.{reverse-reverse, reverse-append}

pub reverse-cons : {A : Type 0} (x : A) (xs : List A) → reverse (x ∷ xs) ≡ reverse xs ++ x ∷ []
reverse-cons x xs = reverse-append (x ∷ []) xs

pub map-reverse : {A B : Type 0} (f : A → B) (xs : List A) → map f (reverse xs) ≡ reverse (map f xs)
map-reverse f [] = refl
map-reverse f (x ∷ xs) =
    ap (map f) (reverse-cons x xs) ∙ map-push f (reverse xs) x ∙ ap (λ l. l ++ f x ∷ []) (map-reverse f xs) ∙ sym (reverse-cons (f x) (map f xs))
  where
    map-push : {A B : Type 0} (f : A → B) (xs : List A) (x : A) → map f (xs ++ x ∷ []) ≡ map f xs ++ f x ∷ []
    map-push f [] x = refl
    map-push f (y ∷ ys) x = ap (λ l. f y ∷ l) (map-push f ys x)

-- two lists that make up a third one
pub record Parts {A : Type 0} (P Q : List A → Type 0) (all : List A) : Type 0 where
  pub front : List A
  pub back : List A
  pub are : all ≡ front ++ back
  pub in_front : P front
  pub in_back : Q back

module _ {A B : Type 0} (R : A → B → Type 0) where
  pub zip-length : (xs : List A) (bs : List B) → AllZip R xs bs → length bs ≡ length xs
  zip-length [] [] z = refl
  zip-length [] (b ∷ bs) z = absurd z
  zip-length (a ∷ xs) [] z = absurd z
  zip-length (a ∷ xs) (b ∷ bs) z = ap suc (zip-length xs bs z.1)

  pub zip-push : (xs : List A) (bs : List B) (a : A) (b : B) → AllZip R xs bs → R a b → AllZip R (xs ++ a ∷ []) (bs ++ b ∷ [])
  zip-push [] [] a b z r = (r, z)
  zip-push [] (c ∷ bs) a b z r = absurd z
  zip-push (c ∷ xs) [] a b z r = absurd z
  zip-push (c ∷ xs) (d ∷ bs) a b z r = (z.0, zip-push xs bs a b z.1 r)

  pub zip-reverse : (xs : List A) (bs : List B) → AllZip R xs bs → AllZip R (reverse xs) (reverse bs)
  zip-reverse [] [] z = z
  zip-reverse [] (b ∷ bs) z = absurd z
  zip-reverse (a ∷ xs) [] z = absurd z
  zip-reverse (a ∷ xs) (b ∷ bs) z =
      subst (λ l. AllZip R l (reverse (b ∷ bs))) (sym (reverse-cons a xs))
      (subst (λ l. AllZip R (reverse xs ++ a ∷ []) l) (sym (reverse-cons b bs)) (zip-push (reverse xs) (reverse bs) a b (zip-reverse xs bs z.1) z.0))

  pub zip-back : (xs : List A) (bs : List B) → AllZip R (reverse xs) bs → AllZip R xs (reverse bs)
  zip-back xs bs z = subst (λ l. AllZip R l (reverse bs)) (reverse-reverse xs) (zip-reverse (reverse xs) bs z)

  -- what belongs to two lists in a row is two lists in a row
  pub zip-parts : (xs cs : List A) (bs : List B) → AllZip R (xs ++ cs) bs → Parts (AllZip R xs) (AllZip R cs) bs
  zip-parts [] cs bs z = record { front = []; back = bs; are = refl; in_front = tt; in_back = z }
  zip-parts (a ∷ xs) cs [] z = absurd z
  zip-parts (a ∷ xs) cs (b ∷ bs) z =
      let rest = zip-parts xs cs bs z.1 in
      record { front = b ∷ rest.front; back = rest.back; are = ap (λ l. b ∷ l) rest.are; in_front = (z.0, rest.in_front); in_back = rest.in_back }
