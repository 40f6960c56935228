-- What is stated of the call over lists beside its contract. Assumes nothing.
pub mod Called
