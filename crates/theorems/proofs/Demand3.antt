-- Demand 3: the theorem that specs/Plan.antt states. Assumes nothing.
use Rattle.theorems.specs.Plan.{Demand3, reported}
use Rattle.theorems.proofs.PlanChecks.{prices_pass}
use Rattle.theorems.proofs.RecordingCalls.{recorded_passes}
use Rattle.theorems.proofs.PlanFresh.{laying_accepted}
use Rattle.theorems.proofs.PlanReports.{balanced}
use Rattle.theorems.proofs.PlanSums.{cost-sum}
use Rattle.model.proofs.PlanLaws.{permitted_ok}
use Rattle.theorems.proofs.PlanAnswers.{bill_answered, eleven_exactly, fifteen_exactly, room_answers, layout_is, layout_permitted, layout_billed, layout_least}

pub plan_is_best : Demand3
plan_is_best calls L p l s h =
    let k = (prices_pass L p l s h).1 in
    let c = recorded_passes L s k calls in
    record {
      counted = c;
      refuses = eleven_exactly L p l s h _ c;
      short = fifteen_exactly L p l s h _ c;
      answers = room_answers L p l s h _ c;
      best = λ out e. record {
        whole = layout_is L p l s h _ c out e;
        allowed = layout_permitted L p l s h _ c out e;
        billed = layout_billed L p l s h _ c out e;
        least = layout_least L p l s h _ c out e;
      };
      bills = bill_answered L p l s h _ c;
      lays = λ ends t. laying_accepted L s k ends (permitted_ok p l s ends t);
      sums = λ free ends t. cost-sum L s k ends p (reported L p s ends) (balanced L s k ends (permitted_ok p l s ends t) p free) calls;
    }
