-- The messages in flight when a step of a part is taken: what is consumed leaves them, and what is sent joins them.
use Rattle.std.specs.Prelude.{ℕ, Bool, true, false, ◌||◌, is_none, Option, Some, None, option_map, unwrap_or}
use Rattle.std.specs.Prelude.{if◌then◌else◌}
use Rattle.network.specs.declared.message.Message.{Message}
use Rattle.network.specs.declared.message.Node.{Node}
use Rattle.network.specs.Mail.{Mail, has_number, has_capacity, sent}
use Rattle.network.specs.NumberedMessages.{without_number}

-- without the delivered message, if there is one
abbrev pub left : Mail → Option ℕ → Mail
left mail n = record mail { messages = unwrap_or (option_map (λ k. without_number k mail.messages) n) mail.messages }

-- after a step that consumes the delivered message, or not, and sends this, if anything
abbrev pub posted : Mail → Option ℕ → Bool → Option Message → Mail
posted mail n true None = left mail n
posted mail n false None = mail
posted mail n true (Some reply) = sent (left mail n) reply
posted mail n false (Some message) = sent mail message

-- whether it can be sent: a reply takes the place of the delivered message, and needs a number alone
abbrev pub can_post : ℕ → Mail → Bool → Option Message → Bool
can_post most mail consumes sends = is_none sends || (if consumes then has_number mail else has_capacity most mail)

-- the same by the node that it goes to, and whether the delivered message stays
abbrev pub can_send : ℕ → Mail → Option (Node × Bool) → Bool
can_send capacity mail None = true
can_send capacity mail (Some sends) = if sends.1 then has_capacity capacity mail else has_number mail
