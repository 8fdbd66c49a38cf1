-- The pieces one after another.
use Rattle.std.proofs.Common.{refl}
use Rattle.http_wire.proofs.answers.head_of.Goals as goal

pub returns : goal.returns
returns c = rw (
  c.push-10.ensures,
  c.push-9.ensures,
  c.closing_of.ensures.text,
  c.push-8.ensures,
  c.as_bytes-3.ensures.value,
  c.format-2.ensures.text,
  c.push-7.ensures,
  c.push-6.ensures,
  c.type_of.ensures.text,
  c.push-5.ensures,
  c.push-4.ensures,
  c.as_bytes-2.ensures.value,
  c.phrase_of.ensures.text,
  c.push-3.ensures,
  c.push-2.ensures,
  c.as_bytes.ensures.value,
  c.format.ensures.text,
  c.push.ensures,
  c.new-head.ensures,
) refl
