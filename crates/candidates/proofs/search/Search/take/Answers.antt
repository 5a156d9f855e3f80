use Rattle.candidates.proofs.SearchSteps.{takes-next, takes-pending}
use Rattle.candidates.proofs.search.Search.take.Goals as goal

pub returns-then-self-clause-takes : goal.returns-then-self-clause-takes
returns-then-self-clause-takes g c = takes-pending c.args.self.now c.if-self.true

pub returns-clause-takes : goal.returns-clause-takes
returns-clause-takes g c =
    let next = c.next_into-self in
    takes-next c.args.self.now next.new.self next.new.out next.result c.if-self.false
    (record {
      next = next.ensures.next;
      end = next.ensures.end;
      given = next.ensures.given;
      in_box = next.ensures.in_box;
      in_window = next.ensures.in_window;
      unchanged = next.ensures.unchanged;
      out_unchanged = next.ensures.out_unchanged;
      size = next.ensures.length;
    })
