-- The number of each refusal of an end's calls, as `protocol` defines them.
pub use Rattle.protocol.specs.Answers.{call_refusal_of, change_refusal_of, tick_refusal_of, take_fault_of}
