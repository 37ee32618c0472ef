-- All forms together.
use Rattle.expr_type.specs.Placed.{FormsKeepOrder}
use Rattle.expr_type.proofs.Forms.{binary, unary, parenthesized, conditional, concatenation, replication, name, member, index, decimal, based, sized, fill}
use Rattle.expr_type.proofs.Calls.{call}

pub keep-order : FormsKeepOrder
keep-order = record {
  binary = binary;
  unary = unary;
  parenthesized = parenthesized;
  conditional = conditional;
  concatenation = concatenation;
  replication = replication;
  name = name;
  call = call;
  member = member;
  index = index;
  decimal = decimal;
  based = based;
  sized = sized;
  fill = fill;
}
