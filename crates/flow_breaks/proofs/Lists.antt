-- Tokens of bits, as the definitions list them and as they are found.
use Rattle.std.proofs.Common.{◌≡◌, inl, inr, ℕ, ◌<◌, ◌^◌, Bool, true, false, ◌&&◌, cond, List, [], ◌∷◌, map, flat_map, refl, ap, sym, ◌∙◌, subst, arith}
use Rattle.row_machine.specs.Valuation.{Member}
use Rattle.row_machine.proofs.Members.{append-member, member-front, member-back, member-map, map-member}
use Rattle.bit_sets.specs.declared.span.Use.{Use}
use Rattle.bit_sets.specs.Sets.{covers}
use Rattle.sv_types.specs.Surroundings as S
use Rattle.sv_types.specs.Flows as F
use Rattle.flow_sets.specs.declared.uses.Write.{Write}
use Rattle.flow_sets.specs.Bits.{use_of, write_of, AllShort}
use Rattle.flow_sets.proofs.Positions.{short-more}
use Rattle.comb_order.specs.Bits.{place_of, kept_use}
use Rattle.comb_order.proofs.Positions.{is_there, kept-is}

-- members of a list that is put together
pub member-flat : {A B : Type 0} (f : A → List B) (xs : List A) (y : B) → Member (flat_map f xs) y → (x : A) × Member xs x × Member (f x) y
member-flat f [] y m = elim m [ ]
member-flat f (x ∷ xs) y m = elim (append-member (f x) (flat_map f xs) y m) [
  | inl h ↦ (x, inl refl, h)
  | inr h ↦ (let r = member-flat f xs y h in (r.0, inr r.1, r.2))
]

pub flat-member : {A B : Type 0} (f : A → List B) (xs : List A) (x : A) (y : B) → Member xs x → Member (f x) y → Member (flat_map f xs) y
flat-member f [] x y m h = elim m [ ]
flat-member f (z ∷ xs) x y (inl is) h = member-front (f z) (flat_map f xs) y (subst (λ a. Member (f a) y) is h)
flat-member f (z ∷ xs) x y (inr m) h = member-back (f z) (flat_map f xs) y (flat-member f xs x y m h)

pub member-if : {A : Type 0} (b : Bool) (xs : List A) (y : A) → Member (cond b xs []) y → (b ≡ true) × Member xs y
member-if true xs y m = (refl, m)
member-if false xs y m = elim m [ ]

pub if-member : {A : Type 0} (b : Bool) (xs : List A) (y : A) → b ≡ true → Member xs y → Member (cond b xs []) y
if-member b xs y is m = subst (λ c. Member (cond c xs []) y) (sym is) m

-- the uses of signals' bits that are there, as they are found
module _ (widths : List ℕ) where
  abbrev pub keeps : List S.Use → List Use
  keeps us = map (kept_use widths) (map use_of us)

  pub record Kept (us : List S.Use) (v : Use) : Type 0 where
    pub use_in : S.Use
    pub stands : Member us use_in
    pub short : use_in.high < 2 ^ 32
    pub same : v ≡ kept_use widths (use_of use_in)

  short-in : (us : List S.Use) (u : S.Use) → AllShort us → Member us u → u.high < 2 ^ 32
  short-in [] u short m = elim m [ ]
  short-in (w ∷ us) u short m = elim m [
    | inl is ↦ (let high = (short-more w us short).0 in let same = ap (λ (x : S.Use). x.high) is in omega (arith, high, same))
    | inr more ↦ short-in us u (short-more w us short).1 more
  ]

  pub kept-in : (us : List S.Use) (v : Use) → AllShort us → Member (keeps us) v → Kept us v
  kept-in us v short m =
      let a = map-member (kept_use widths) (map use_of us) v m in
      let b = map-member use_of us a.0 a.1 in
      record { use_in = b.0; stands = b.1; short = short-in us b.0 short b.1; same = a.2 ∙ ap (kept_use widths) b.2 }

  pub in-kept : (us : List S.Use) (u : S.Use) → Member us u → Member (keeps us) (kept_use widths (use_of u))
  in-kept us u m = member-map (kept_use widths) (map use_of us) (use_of u) (member-map use_of us u m)

  pub covers-kept : (u : S.Use) (n : ℕ) → u.high < 2 ^ 32 → covers (kept_use widths (use_of u)).span n ≡ (F.covers u (place_of n) && is_there widths (place_of n))
  covers-kept u n short = kept-is widths u n short

  pub short-of : (us : List S.Use) (u : S.Use) → AllShort us → Member us u → u.high < 2 ^ 32
  short-of = short-in

  -- writes, as uses
  pub kept-writes : (ws : List S.Write) → map (λ (w : Write). kept_use widths w.of) (map write_of ws) ≡ keeps (F.uses_of ws)
  kept-writes [] = refl
  kept-writes (w ∷ ws) = ap (λ us. kept_use widths (use_of w.of) ∷ us) (kept-writes ws)
