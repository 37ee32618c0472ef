-- The ways in which paths end, with the bits that all paths have written which end so.
use Rattle.std.specs.Prelude.{◌≡◌, ⊤, ℕ, Bool, false, ◌&&◌, ◌||◌, not, List, Option, Some, None, is_some}
use Rattle.bit_sets.specs.declared.span.Span.{Span}
use Rattle.bit_sets.specs.Sets.{in_spans, IsSet}
use Rattle.flow_sets.specs.declared.ends.Ends.{Ends}
use Rattle.sv_types.specs.declared.statement.Outcome.{Outcome}
use Rattle.sv_types.specs.declared.statement.Outcome.TheVariants as O

abbrev pub IsKnown : Option (List Span) → Type 0
IsKnown None = ⊤
IsKnown (Some s) = IsSet s

-- whether a path that ends so leaves a bit unwritten
abbrev pub leaves_out : Option (List Span) → ℕ → Bool
leaves_out None n = false
leaves_out (Some s) n = not (in_spans s n)

-- whether a path ends so, and which bits one leaves unwritten
pub record IsEnd (r : Option (List Span)) (reached : Bool) (left : ℕ → Bool) : Type 0 where
  pub set : IsKnown r
  pub ends : is_some r ≡ reached
  pub slips : (n : ℕ) → leaves_out r n ≡ left n

abbrev pub end_in : Ends → Outcome → Option (List Span)
end_in e O.Normal = e.normal
end_in e O.Break = e.breaks
end_in e O.Continue = e.continues
end_in e O.Return = e.returns

pub record AreKnown (e : Ends) : Type 0 where
  pub normal : IsKnown e.normal
  pub breaks : IsKnown e.breaks
  pub continues : IsKnown e.continues
  pub returns : IsKnown e.returns

-- one path and then another, or one that ended before
abbrev pub IsThen : Option (List Span) → Option (List Span) → Option (List Span) → Option (List Span) → Type 0
IsThen r first then_ before =
    IsEnd r ((is_some first && is_some then_) || is_some before) (λ n. (leaves_out first n && leaves_out then_ n) || leaves_out before n)

abbrev pub IsAfter : Option (List Span) → Option (List Span) → Option (List Span) → Type 0
IsAfter r first then_ = IsEnd r (is_some first && is_some then_) (λ n. leaves_out first n && leaves_out then_ n)

abbrev pub IsEither : Option (List Span) → Option (List Span) → Option (List Span) → Type 0
IsEither r a b = IsEnd r (is_some a || is_some b) (λ n. leaves_out a n || leaves_out b n)

pub record AreThen (r first then_ : Ends) : Type 0 where
  pub normal : IsAfter r.normal first.normal then_.normal
  pub breaks : IsThen r.breaks first.normal then_.breaks first.breaks
  pub continues : IsThen r.continues first.normal then_.continues first.continues
  pub returns : IsThen r.returns first.normal then_.returns first.returns

pub record AreEither (r a b : Ends) : Type 0 where
  pub normal : IsEither r.normal a.normal b.normal
  pub breaks : IsEither r.breaks a.breaks b.breaks
  pub continues : IsEither r.continues a.continues b.continues
  pub returns : IsEither r.returns a.returns b.returns

abbrev pub ending : Outcome → List Span → Ends
ending O.Normal s = record { normal = Some s; breaks = None; continues = None; returns = None }
ending O.Break s = record { normal = None; breaks = Some s; continues = None; returns = None }
ending O.Continue s = record { normal = None; breaks = None; continues = Some s; returns = None }
ending O.Return s = record { normal = None; breaks = None; continues = None; returns = Some s }
