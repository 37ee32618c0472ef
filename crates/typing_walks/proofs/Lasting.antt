-- What is sound stays so where more functions are known.
use Rattle.std.proofs.Common.{List, [], ◌∷◌}
use Rattle.sv_types.specs.declared.statement.Function.{Function}
use Rattle.expr_type.specs.declared.operand.Valued.{Valued}
use Rattle.expr_type.specs.declared.step.Step.TheVariants as T
use Rattle.expr_type.specs.Operands.{Operand}
use Rattle.expr_type.specs.Operators.{Only, From}
use Rattle.expr_type.specs.Patterns.{Item}
use Rattle.typing_fits.specs.Sound.{Extends, Sound, AllSound}
use Rattle.typing_fits.specs.Operands.{SoundFixed, SoundOperand, AllSoundOperands, KnownCall}
use Rattle.typing_fits.specs.Patterns.{AllSoundItems}
use Rattle.typing_fits.specs.Selects.{SoundIndex, SoundStep}
use Rattle.typing_fits.proofs.Given.{sound-later, operand-later}
use Rattle.typing_walks.specs.Keeps.{AllHold, Lasts, Anything, FullType, SoundInside, SoundParts, SoundItem, SoundRange}

pub valued-lasts : Lasts Sound
valued-lasts v gs hs e s = sound-later v gs hs e s

pub operand-lasts : Lasts SoundOperand
operand-lasts o gs hs e s = operand-later o gs hs e s

pub fixed-lasts : Lasts SoundFixed
fixed-lasts v gs hs e s = record { none = s.none; sound = sound-later v gs hs e s.sound }

pub index-lasts : Lasts SoundIndex
index-lasts i gs hs e s = record { sound = sound-later i gs hs e s.sound; short = s.short }

pub step-lasts : Lasts SoundStep
step-lasts (T.Member name) gs hs e s = tt
step-lasts (T.Index opening i) gs hs e s = index-lasts i gs hs e s
step-lasts (T.Part opening left right) gs hs e s = tt
step-lasts (T.Slide opening up i n) gs hs e s = (index-lasts i gs hs e s.0, s.1)

pub call-lasts : Lasts KnownCall
call-lasts c gs hs e s = record { known = e.keeps c.place c.of s.known; result = s.result; formals = s.formals }

pub inside-lasts : Lasts SoundInside
inside-lasts i gs hs e s = operand-later i.of gs hs e s

pub item-lasts : Lasts SoundItem
item-lasts i gs hs e s = operand-later i.value gs hs e s

pub range-lasts : Lasts SoundRange
range-lasts (Only v) gs hs e s = (sound-later v gs hs e s.0, tt)
range-lasts (From low high) gs hs e s = (sound-later low gs hs e s.0, (sound-later high gs hs e s.1.0, tt))

pub any-lasts : {A : Type 0} → Lasts {A = A} Anything
any-lasts a gs hs e s = tt

pub full-lasts : Lasts FullType
full-lasts t gs hs e s = s

-- lists
pub all-valued : (vs : List Valued) (gs : List Function) → AllHold Sound vs gs → AllSound vs gs
all-valued [] gs s = tt
all-valued (v ∷ vs) gs s = (s.0, all-valued vs gs s.1)

pub all-operands : (os : List Operand) (gs : List Function) → AllHold SoundOperand os gs → AllSoundOperands os gs
all-operands [] gs s = tt
all-operands (o ∷ os) gs s = (s.0, all-operands os gs s.1)

pub all-items : (is : List Item) (gs : List Function) → AllHold SoundItem is gs → AllSoundItems is gs
all-items [] gs s = tt
all-items (i ∷ is) gs s = (s.0, all-items is gs s.1)

items-later : (is : List Item) (gs hs : List Function) → Extends gs hs → AllSoundItems is gs → AllSoundItems is hs
items-later [] gs hs e s = tt
items-later (i ∷ is) gs hs e s = (operand-later i.value gs hs e s.0, items-later is gs hs e s.1)

pub parts-lasts : Lasts SoundParts
parts-lasts p gs hs e s = items-later p.items gs hs e s
