pub mod SignalsExact
pub mod ProcessesExact
pub mod FunctionsExact
pub mod InstancesExact
