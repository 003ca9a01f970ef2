pub mod Framing
pub mod Receiver
pub mod Unpacking
pub mod Packing
pub mod Delivery
