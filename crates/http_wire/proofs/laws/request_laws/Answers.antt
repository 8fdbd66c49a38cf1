-- The laws stand in RequestLaws and ConnectionLaws.
use Rattle.http_wire.proofs.RequestLaws.{begins_alike, nothing_at_the_end, one_refusal, one_request, refused_or_not}
use Rattle.http_wire.proofs.ConnectionLaws.{goes_on, goes_on_by_one, one_list}
use Rattle.http_wire.proofs.laws.request_laws.Goals as goal

pub returns : goal.returns
returns c = record {
  one_request = one_request;
  refused_or_not = refused_or_not;
  one_refusal = one_refusal;
  nothing_at_the_end = nothing_at_the_end;
  begins_alike = begins_alike;
  one_list = one_list;
  goes_on_by_one = goes_on_by_one;
  goes_on = goes_on;
}
