use Rattle.command_line.proofs.app.with_machine_options.Goals as goal

pub returns : goal.returns
returns c = λ app had.
    c.with_number_option.ensures _ (c.with_number_option-eight.ensures _ (c.with_number_option-seven.ensures _
    (c.with_number_option-six.ensures _ (c.with_number_option-five.ensures _ (c.with_number_option-four.ensures _
    (c.with_number_option-three.ensures _ (c.with_number_option-two.ensures _
    (c.with_number_option-one.ensures app had))))))))
