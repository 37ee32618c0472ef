-- What is kept of a declared signal is what it means.
use Rattle.v_meaning.specs.Modules.{Kind, input_net, net, variable, Signal}
use Rattle.v_instances.specs.declared.slots.SlotKind.{SlotKind}
use Rattle.v_instances.specs.declared.slots.SlotKind.TheVariants as K
use Rattle.v_instances.specs.declared.slots.Slot.{Slot}

abbrev pub kind_of : SlotKind → Kind
kind_of K.Input = input_net
kind_of K.Net = net
kind_of K.Variable = variable

abbrev pub signal_of : Slot → Signal
signal_of s = record { name = s.name; width = s.width; words = s.words; kind = kind_of s.kind; initial = s.initial }
