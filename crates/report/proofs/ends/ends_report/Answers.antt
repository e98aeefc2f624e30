use Rattle.std.proofs.Common.{◌≡◌, inr, refl, subst}
use Rattle.litmus_reader.specs.TestViews.{test_of}
use Rattle.report_lines.specs.declared.layout.Layout.{Layout}
use Rattle.report.specs.EveryText.{every_text}
use Rattle.report.proofs.Refused.{no_list}
use Rattle.report.proofs.ends.ends_report.Goals as goal

pub returns-in-Err-clause-refused : goal.returns-in-Err-clause-refused
returns-in-Err-clause-refused c =
    no_list c.args.options.now c.args.text.now c.in-Err.error c.in-Err.ensures.refused

pub returns-in-Err-NoMemory-clause-refused : goal.returns-in-Err-NoMemory-clause-refused
returns-in-Err-NoMemory-clause-refused c = inr (test_of c.in-Ok.test, c.in-Ok.ensures.found)

pub returns-in-Ok-ends_list_text-clause-report : goal.returns-in-Ok-ends_list_text-clause-report
returns-in-Ok-ends_list_text-clause-report c =
    let listed = c.in-Ok-list_ends.ensures in
    record {
      test = test_of c.in-Ok.test;
      every = c.in-Ok-list_ends.every;
      is_test = c.in-Ok.ensures.found;
      lists = record {
        outcomes = listed.outcomes;
        all = listed.all;
        rising = listed.rising;
        once = listed.once;
        states = listed.states;
        few = listed.few;
        orders = listed.orders;
      };
      text_is = subst (λ (layout : Layout). c.in-Ok-ends_list_text.text.items
          ≡ every_text layout (test_of c.in-Ok.test) c.in-Ok-list_ends.every c.args.options.now.orders)
          c.layout_of-layout.ensures c.in-Ok-ends_list_text.ensures;
      done = refl;
    }

pub returns-clause-refused : goal.returns-clause-refused
returns-clause-refused c = inr (test_of c.in-Ok.test, c.in-Ok.ensures.found)
